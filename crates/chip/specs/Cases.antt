-- The twelve worked cases: handbook Figure 6-1 and its neighbours, as document 01 numbers them. They go
-- through the calls that a host makes: start, register writes and reads, bus accesses.
use Rattle.std.specs.Prelude.{ℕ, ◌+◌, Bool, true, ◌&&◌, List, [], ◌∷◌, ◌++◌, eqb, Option, Some, None}
use Rattle.descriptors.specs.Descriptor.{bytes}
use Rattle.registers.specs.Shared.{board}
use Rattle.chip.specs.Answer.{done, byte_read, mapped, undefined, values}
use Rattle.chip.specs.Reset.{unselected}
use Rattle.chip.specs.Call.{performed}
use Rattle.descriptors.specs.declared.descriptor.Descriptor.{Descriptor}
use Rattle.chip.specs.declared.system.System.{System}
use Rattle.chip.specs.declared.access.Cycle.TheVariants as cycle
use Rattle.chip.specs.declared.register.Operation.TheVariants.{Read, Write}
use Rattle.chip.specs.declared.call.Call.TheVariants.{Start, Access, Register}

-- A step: a call to unit 0, and what it must answer.
pub data Step : Type 0 where
  -- this byte is written to the register at this address
  write : (address byte : ℕ) → Step
  -- the register at this address reads as this byte
  reads : (address byte : ℕ) → Step
  -- in the space of this number a read of the address goes to this physical address
  maps : (number address physical : ℕ) → Step
  -- in the space of this number a read of the address is undefined
  misses : (number address : ℕ) → Step

-- function code 1 stands for the number
abbrev pub in_space : (number : ℕ) → System → System
in_space number s = (performed (Register 0 0x02 (Write number)) s).system

-- the steps one after the other, each answered as it must be
abbrev pub holds : List Step → System → Bool
holds [] s = true
holds (write address byte ∷ steps) s =
    let o = performed (Register 0 address (Write byte)) s in
    eqb (values o.answer).kind done && holds steps o.system
holds (reads address byte ∷ steps) s =
    let o = performed (Register 0 address Read) s in
    eqb (values o.answer).kind byte_read && eqb (values o.answer).byte byte && holds steps o.system
holds (maps number address physical ∷ steps) s =
    let o = performed (Access 1 cycle.Read address) (in_space number s) in
    eqb (values o.answer).kind mapped && eqb (values o.answer).address physical && holds steps o.system
holds (misses number address ∷ steps) s =
    let o = performed (Access 1 cycle.Read address) (in_space number s) in
    eqb (values o.answer).kind undefined && holds steps o.system

-- the accumulator bytes from AC i on are written
abbrev pub fill : (i : ℕ) → List ℕ → List Step
fill i [] = []
fill i (b ∷ bs) = write (0x20 + i) b ∷ fill (i + 1) bs

-- a segment is loaded into descriptor n, and the load answers this byte
abbrev pub load : (n : ℕ) → Descriptor → (byte : ℕ) → List Step
load n d byte = fill 0 (bytes d) ++ (write 0x29 n ∷ reads 0x3F byte ∷ [])

-- segments are loaded into descriptors n, n + 1, .., and each load is granted
abbrev pub load_all : (n : ℕ) → List Descriptor → List Step
load_all n [] = []
load_all n (d ∷ ds) = load n d 0x00 ++ load_all (n + 1) ds

-- a segment as Figure 6-1 gives it, enabled (SSR $01)
abbrev pub segment : (lba lam pba asn asm : ℕ) → Descriptor
segment lba lam pba asn asm = record { lba = lba; lam = lam; pba = pba; asn = asn; ssr = 0x01; asm = asm }

-- R, V, O, 1A, 1B, 1C, 2A, 2B, 2C of the figure, with the base and physical base of 1B
abbrev pub figure_6_1 : (base physical : ℕ) → List Descriptor
figure_6_1 base physical =
    segment 0x0000 0x0000 0x0000 0x00 0xFF
    ∷ segment 0x8000 0xFFFC 0x0000 0x80 0x80
    ∷ segment 0xF000 0xF000 0xF000 0x80 0x80
    ∷ segment 0x0000 0xE000 0x2000 0x01 0x7F
    ∷ segment base 0xC000 physical 0x01 0x7F
    ∷ segment 0x9000 0xF000 0xE000 0x01 0x7F
    ∷ segment 0x0000 0xF000 0x1000 0x02 0x7F
    ∷ segment 0x7FFF 0xE000 0x7FFF 0x02 0x7F
    ∷ segment 0xA000 0xF000 0xE000 0x02 0x7F
    ∷ []

abbrev pub figure : List Step
figure = load_all 0 (figure_6_1 0x7FFF 0xBFFF)

-- the segment of cases 8 and 9, in the space asn
abbrev pub neighbour : (asn : ℕ) → Descriptor
neighbour asn = segment 0x5000 0xF000 0x0000 asn 0xFF

-- case 10: a segment with one significant page bit
abbrev pub one_bit : (lba lam : ℕ) → Descriptor
one_bit lba lam = segment lba lam 0x0000 0x00 0xFF

-- A case: the unit that is selected at start, and the steps.
pub record Case : Type 0 where
  pub unit : Option ℕ
  pub steps : List Step

abbrev pub selecting : List Step → Case
selecting steps = record { unit = Some 0; steps = steps }

abbrev pub unselecting : List Step → Case
unselecting steps = record { unit = None; steps = steps }

-- the segment, where it is the only one, maps the address
abbrev pub alone : Descriptor → (number address physical : ℕ) → Case
alone d number address physical = unselecting (load 0 d 0x00 ++ (maps number address physical ∷ []))

-- 1 to 9, 12, 11, and 10 in its two parts. After 8, and after the first part of 10, the segment that was
-- refused, alone: it maps the page that the one it clashed with maps
abbrev pub cases : List Case
cases =
    selecting (figure ++ (maps 0x01 0x900000 0xE00000 ∷ maps 0x02 0xA00000 0xE00000 ∷ []))
    ∷ selecting (figure ++ (maps 0x01 0x7FFF12 0xBFFF12 ∷ []))
    ∷ selecting (load_all 0 (figure_6_1 0x4000 0x8000) ++ (maps 0x01 0x7FFF12 0xBFFF12 ∷ []))
    ∷ selecting (figure ++ (maps 0x01 0x400000 0x800000 ∷ misses 0x01 0x3FFF00 ∷ []))
    ∷ selecting (figure ++ (maps 0x81 0x010000 0x210000 ∷ []))
    ∷ selecting (figure ++ (maps 0x02 0x010000 0x110000 ∷ []))
    ∷ selecting (figure ++ (maps 0x00 0xABCD00 0xABCD00 ∷ []))
    ∷ selecting (figure ++ load 9 (neighbour 0x01) 0xFF ++ (reads 0x3B 4 ∷ maps 0x01 0x500000 0x900000 ∷ []))
    ∷ alone (neighbour 0x01) 0x01 0x500000 0x000000
    ∷ selecting (figure ++ load 9 (neighbour 0x03) 0x00 ++ (maps 0x03 0x500000 0x000000 ∷ []))
    ∷ selecting (figure ++ (write 0x29 4 ∷ reads 0x31 0x01 ∷ reads 0x3F 0x00 ∷ maps 0x01 0x7FFF12 0xBFFF12 ∷ []))
    ∷ selecting (write 0x29 1 ∷ write 0x31 0x01 ∷ reads 0x31 0x00 ∷ [])
    ∷ unselecting (load 0 (one_bit 0x0001 0x0001) 0x00 ++ (maps 0x00 0x800100 0x800000 ∷ []) ++ load 1 (one_bit 0x8000 0x8000) 0xFF)
    ∷ alone (one_bit 0x8000 0x8000) 0x00 0x800100 0x000100
    ∷ unselecting (load 0 (one_bit 0x0000 0x0001) 0x00 ++ load 1 (one_bit 0x0001 0x0001) 0x00)
    ∷ []

abbrev pub all_hold : List Case → Bool
all_hold [] = true
all_hold (c ∷ cs) =
    let o = performed (Start 1 c.unit) (unselected (board 0)) in
    eqb (values o.answer).kind done && holds c.steps o.system && all_hold cs
