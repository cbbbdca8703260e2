-- The registers that a unit has of its own: handbook 3.2.2 and 3.2.4 to 3.2.6.
use Rattle.std.specs.Prelude.{ℕ, ◌+◌, ◌*◌, ◌/◌, ◌%◌, Bool, true, false, ◌&&◌, cond, List, [], ◌∷◌, map, get_or, set}
use Rattle.masks.specs.Fields.{bit, field}
use Rattle.pieces.specs.Pieces.{join, list_of}
use Rattle.descriptors.specs.Status.{clean}
use Rattle.descriptors.specs.Descriptor.{bytes}
use Rattle.descriptors.specs.declared.descriptor.Descriptor.{Descriptor}
use Rattle.registers.specs.declared.unit.Byte.{Byte}
use Rattle.registers.specs.declared.unit.Unit.{Unit}
use Rattle.registers.specs.declared.unit.Bytes.{Bytes}
use Rattle.registers.specs.declared.unit.Bytes.TheVariants.{Translation, Load}

-- 3.2.4, L7 to L4: the MMU was not the source of the last event; direct translation; load descriptor
-- fault; undefined segment access; write violation
abbrev pub NO : ℕ
NO = 0b0000

abbrev pub DT : ℕ
DT = 0b1000

abbrev pub LD : ℕ
LD = 0b1001

abbrev pub USA : ℕ
USA = 0b1010

abbrev pub WV : ℕ
WV = 0b1100

-- 3.2.4: RW's place in the LSR
abbrev pub RW : ℕ
RW = 3

-- 3.2.6, 3.2.7: no valid result, no valid interrupt: bit 7, with the number 0
abbrev pub none : ℕ
none = 0x80

-- 3.2.6: what the register can hold of a byte: NVR, with the number 0, or five bits of number
abbrev pub rdp_of : (value : ℕ) → ℕ
rdp_of value = cond (bit value 7) none (value % 32)

-- 3.2.4: L and RW, from the LSR's byte
abbrev pub l_of : (value : ℕ) → ℕ
l_of value = value / 16

abbrev pub rw_of : (value : ℕ) → Bool
rw_of value = bit value RW

-- a byte of the accumulator that was written globally, and one that was not
abbrev pub global : (value : ℕ) → Byte
global value = record { value = value; global = true }

abbrev pub local : (value : ℕ) → Byte
local value = record { value = value; global = false }

-- 3.2.2: accumulator byte i (there is none past AC8)
abbrev pub byte : Unit → (i : ℕ) → Byte
byte u i = get_or u.accumulator i (local 0)

-- its value
abbrev pub ac : Unit → (i : ℕ) → ℕ
ac u i = (byte u i).value

-- 3.2.4: the nine marks as a number, AC0's in bit 0
unfoldable pub marks : Unit → ℕ
marks u = field 9 (λ i. (byte u i).global)

-- byte i, with its mark from such a number; and the accumulator of nine bytes
abbrev pub marked : (value marks i : ℕ) → Byte
marked value marks i = record { value = value; global = bit marks i }

unfoldable pub accumulator_of : (values : List ℕ) (marks : ℕ) → List Byte
accumulator_of values marks = list_of 9 (λ i. marked (get_or values i 0) marks i)

-- The unit with one of its registers changed.
abbrev pub with_accumulator : Unit → List Byte → Unit
with_accumulator u a = record { accumulator = a; dp = u.dp; rdp = u.rdp; l = u.l; rw = u.rw }

abbrev pub with_dp : Unit → ℕ → Unit
with_dp u dp = record { accumulator = u.accumulator; dp = dp; rdp = u.rdp; l = u.l; rw = u.rw }

abbrev pub with_rdp : Unit → ℕ → Unit
with_rdp u rdp = record { accumulator = u.accumulator; dp = u.dp; rdp = rdp; l = u.l; rw = u.rw }

abbrev pub with_l : Unit → ℕ → Unit
with_l u l = record { accumulator = u.accumulator; dp = u.dp; rdp = u.rdp; l = l; rw = u.rw }

abbrev pub with_rw : Unit → Bool → Unit
with_rw u rw = record { accumulator = u.accumulator; dp = u.dp; rdp = u.rdp; l = u.l; rw = rw }

abbrev pub with_byte : Unit → (i : ℕ) → Byte → Unit
with_byte u i b = with_accumulator u (set u.accumulator i b)

-- 3.2.4, 3.2.6: what the last event left in L4-L7 and in the RDP
abbrev pub report : (l rdp : ℕ) → Unit → Unit
report l rdp u = with_rdp (with_l u l) rdp

-- 4.6.3.1: a global write of a byte of the accumulator; that register is marked as global
abbrev pub write_ac : (i value : ℕ) → Unit → Unit
write_ac i value u = with_byte u i (global value)

-- 4.5.3.3: the logical address is latched into AC0 (MSB) and AC1 (LSB), the cycle address space
-- number into AC6; these registers are marked as non-global
abbrev pub latch : (page number : ℕ) → Unit → Unit
latch page number u =
    with_byte (with_byte (with_byte u 0 (local (page / 256))) 1 (local (page % 256))) 6 (local number)

-- 4.6.2.3: the contents of the descriptor are transferred into the accumulator
abbrev pub take : Descriptor → Unit → Unit
take d u = with_accumulator u (map local (bytes d))

-- 4.6.3.3: the physical address is put into AC4-AC5, RDP and DP are loaded with the descriptor's
-- number, L4-L7 indicate direct translation
abbrev pub translated : (page number : ℕ) → Unit → Unit
translated page number u =
    report DT number (with_dp (with_byte (with_byte u 4 (local (page / 256))) 5 (local (page % 256))) number)

-- 3.2.5: the five low-order bits identify the descriptor
abbrev pub write_dp : (value : ℕ) → Unit → Unit
write_dp value u = with_dp u (value % 32)

-- 3.2.4: the LSR can be written, but GAL, GAT and LIP will not be affected
abbrev pub write_lsr : (value : ℕ) → Unit → Unit
write_lsr value u = with_rw (with_l u (l_of value)) (rw_of value)

-- 3.2.4: the bytes that must be globally consistent for a translation, and for a load
abbrev pub for_translation : List ℕ
for_translation = 0 ∷ 1 ∷ 6 ∷ []

abbrev pub for_load : List ℕ
for_load = 0 ∷ 1 ∷ 2 ∷ 3 ∷ 6 ∷ 8 ∷ []

-- the bytes that a direct translation and a load need, by name
abbrev pub needed : Bytes → List ℕ
needed Translation = for_translation
needed Load = for_load

-- 3.2.4: these were last modified as a result of a global write
abbrev pub consistent : List ℕ → Unit → Bool
consistent [] u = true
consistent (i ∷ is) u = (byte u i).global && consistent is u

-- a flag as the number 1 or 0
abbrev pub flag : Bool → ℕ
flag b = cond b 1 0

-- 3.2.4: L7 to L4, then RW: what a unit holds of its LSR
abbrev pub held_lsr : Unit → ℕ
held_lsr u = 16 * (u.l % 16) + 8 * flag u.rw

-- 3.2.4: GAT, GAL and LIP, which are worked out, follow down to bit 0
abbrev pub lsr : Unit → (lip : Bool) → ℕ
lsr u lip = held_lsr u + 4 * flag (consistent for_translation u) + 2 * flag (consistent for_load u) + flag lip

-- Table 3-1: a word of the accumulator, MSB first
abbrev pub word : Unit → (i : ℕ) → ℕ
word u i = join (ac u i) (ac u (i + 1))

-- Table 3-1: the segment in the accumulator, its status in clean form
abbrev pub segment : Unit → Descriptor
segment u = record { lba = word u 0; lam = word u 2; pba = word u 4; asn = ac u 6; ssr = clean (ac u 7); asm = ac u 8 }

-- no accumulator, every register zero: what a list of units gives past its end
abbrev pub no_unit : Unit
no_unit = record { accumulator = []; dp = 0; rdp = 0; l = 0; rw = false }
