-- One unit's block of an image: document 02, P2. 512 bytes; a word has its high byte first.
use Rattle.std.specs.Prelude.{ℕ, zero, suc, ◌+◌, ◌-◌, ◌*◌, ◌%◌, ◌^◌, Bool, List, [], ◌∷◌, ◌++◌, drop, replicate, ◌==◌, slice_index}
use Rattle.pieces.specs.Pieces.{list_of, pieces, high_first, high_first_at}
use Rattle.descriptors.specs.Descriptor.{bytes}
use Rattle.registers.specs.Unit.{ac, marks as marks_of, accumulator_of, l_of, rw_of, held_lsr}
use Rattle.registers.specs.Shared.{board, gsr_of, gsr_byte}
use Rattle.chip.specs.System.{unit, descriptor}
use Rattle.descriptors.specs.declared.descriptor.Descriptor.{Descriptor}
use Rattle.registers.specs.declared.unit.Unit.{Unit}
use Rattle.registers.specs.declared.shared.Shared.{Shared}
use Rattle.chip.specs.declared.system.System.{System}

-- how many bytes a block has
abbrev pub size : ℕ
size = 512

-- ---- The bytes. 0: the unit number
abbrev pub number : (block : List ℕ) → ℕ
number b = slice_index b 0

-- 1: the count
abbrev pub count : (block : List ℕ) → ℕ
count b = slice_index b 1

-- 2 to 17: the table
abbrev pub table : (block : List ℕ) → List ℕ
table b = list_of 16 (λ i. slice_index b (2 + i))

-- 18 to 26: AC0 to AC8
abbrev pub accumulator : (block : List ℕ) → List ℕ
accumulator b = list_of 9 (λ i. slice_index b (18 + i))

-- 27 and 28: the nine marks, AC0's in the lowest bit
abbrev pub marks : (block : List ℕ) → ℕ
marks b = high_first_at b 27

-- 29: DP
abbrev pub dp : (block : List ℕ) → ℕ
dp b = slice_index b 29

-- 30: IVR
abbrev pub ivr : (block : List ℕ) → ℕ
ivr b = slice_index b 30

-- 31: GSR
abbrev pub gsr : (block : List ℕ) → ℕ
gsr b = slice_index b 31

-- 32: LSR without its three worked-out bits
abbrev pub lsr : (block : List ℕ) → ℕ
lsr b = slice_index b 32

-- 33: RDP
abbrev pub rdp : (block : List ℕ) → ℕ
rdp b = slice_index b 33

-- 34 to 321: the 32 descriptors, nine bytes each; where descriptor n begins, and its status
abbrev pub place : (n : ℕ) → ℕ
place n = 34 + 9 * n

abbrev pub ssr : (n : ℕ) (block : List ℕ) → ℕ
ssr n b = slice_index b (place n + 7)

-- 322 to 509: zero
abbrev pub reserved : (block : List ℕ) (i : ℕ) → ℕ
reserved b i = slice_index b (322 + i)

-- the first n words, added up
unfoldable pub words : (n : ℕ) (block : List ℕ) → ℕ
words zero b = 0
words (suc n) b = words n b + high_first_at b (2 * n)

-- "A block's 256 big-endian 16-bit words add up to zero, carries beyond 16 bits dropped."
abbrev pub adds_up : (block : List ℕ) → Bool
adds_up b = words 256 b % 2 ^ 16 == 0

-- ---- Writing: unit m of a system, up to the check
unfoldable pub fields : System → (m : ℕ) → List ℕ
fields s m =
    let h = s.shared in
    let u = unit s m in
    m ∷ h.board.count % 256 ∷ h.table
    ++ list_of 9 (ac u) ++ high_first (marks_of u) ++ u.dp ∷ h.ivr ∷ gsr_byte h.gsr ∷ held_lsr u ∷ u.rdp ∷ []
    ++ pieces 32 (λ n. bytes (descriptor s (32 * m + n)))
    ++ replicate 188 0

-- 510 and 511: the check, the word with which they add up to zero
abbrev pub check : (fields : List ℕ) → ℕ
check b = (2 ^ 16 - words 255 b % 2 ^ 16) % 2 ^ 16

unfoldable pub block : System → (m : ℕ) → List ℕ
block s m = fields s m ++ high_first (check (fields s m))

-- ---- Reading: what all units share, a unit's registers, descriptor n
unfoldable pub shared_of : (block : List ℕ) → Shared
shared_of b = record { table = table b; gsr = gsr_of (gsr b); ivr = ivr b; board = board (count b) }

unfoldable pub unit_of : (block : List ℕ) → Unit
unit_of b = record {
  accumulator = accumulator_of (accumulator b) (marks b);
  dp = dp b;
  rdp = rdp b;
  l = l_of (lsr b);
  rw = rw_of (lsr b);
}

unfoldable pub descriptor_of : (n : ℕ) (block : List ℕ) → Descriptor
descriptor_of n b = let d = drop (place n) b in record {
  lba = high_first_at d 0;
  lam = high_first_at d 2;
  pba = high_first_at d 4;
  asn = slice_index d 6;
  ssr = slice_index d 7;
  asm = slice_index d 8;
}
