-- The block that a host lends: where each register stands (docs/LAYOUTS.md). A word has its low byte first.
use Rattle.std.specs.Prelude.{ℕ, ◌+◌, ◌*◌, ◌-◌, ◌%◌, min, Bool, cond, List, [], ◌∷◌, ◌++◌, ltb, length, take, drop, get_or, replicate}
use Rattle.pieces.specs.Pieces.{list_of, pieces, low_first, low_first_at}
use Rattle.descriptors.specs.Status.{clean}
use Rattle.registers.specs.Unit.{rdp_of, l_of, rw_of, ac, marks, accumulator_of, held_lsr}
use Rattle.registers.specs.Shared.{board, gsr_of, gsr_byte}
use Rattle.chip.specs.System.{present, unit, descriptor, each}
use Rattle.chip.specs.Reset.{nothing}
use Rattle.descriptors.specs.declared.descriptor.Descriptor.{Descriptor}
use Rattle.registers.specs.declared.unit.Unit.{Unit}
use Rattle.registers.specs.declared.shared.Shared.{Shared}
use Rattle.chip.specs.declared.system.System.{System}

-- how many bytes a host lends
abbrev pub size : ℕ
size = 4096

-- a block that is too short
abbrev pub short : (block : List ℕ) → Bool
short b = ltb (length b) size

-- where unit m and the descriptor at place i stand
abbrev pub unit_place : (m : ℕ) → ℕ
unit_place m = 32 + 16 * m

abbrev pub descriptor_place : (i : ℕ) → ℕ
descriptor_place i = 128 + 9 * i

-- Writing. A unit in 16 bytes, a descriptor in nine, and what the units share in 32
unfoldable pub unit_bytes : Unit → List ℕ
unit_bytes u = list_of 9 (ac u) ++ low_first (marks u) ++ u.dp ∷ held_lsr u ∷ u.rdp ∷ 0 ∷ 0 ∷ []

unfoldable pub descriptor_bytes : Descriptor → List ℕ
descriptor_bytes d = low_first d.lba ++ low_first d.lam ++ low_first d.pba ++ d.asn ∷ d.ssr ∷ d.asm ∷ []

unfoldable pub shared_bytes : Shared → List ℕ
shared_bytes h = h.board.count % 256 ∷ gsr_byte h.gsr ∷ h.ivr ∷ replicate 13 0 ++ h.table

-- the one written form of a system
unfoldable pub form : System → List ℕ
form s =
    let n = present s in
    shared_bytes s.shared
    ++ pieces n (λ m. unit_bytes (unit s m)) ++ replicate (16 * (6 - n)) 0
    ++ pieces (32 * n) (λ i. descriptor_bytes (descriptor s i)) ++ replicate (3968 - 288 * n) 0

-- what a block holds after a system was written to it: the bytes past its size stay, and so does a
-- block that is too short
unfoldable pub written : (block : List ℕ) → System → List ℕ
written b s = cond (short b) b (form s ++ drop size b)

-- Reading. A unit's registers and a descriptor, from where they stand on
unfoldable pub unit_of : List ℕ → Unit
unit_of b = record {
  accumulator = accumulator_of (list_of 9 (λ i. get_or b i 0)) (low_first_at b 9);
  dp = get_or b 11 0 % 32;
  rdp = rdp_of (get_or b 13 0);
  l = l_of (get_or b 12 0);
  rw = rw_of (get_or b 12 0);
}

unfoldable pub descriptor_of : List ℕ → Descriptor
descriptor_of b = record {
  lba = low_first_at b 0;
  lam = low_first_at b 2;
  pba = low_first_at b 4;
  asn = get_or b 6 0;
  ssr = clean (get_or b 7 0);
  asm = get_or b 8 0;
}

unfoldable pub shared_of : List ℕ → Shared
shared_of b = record { table = take 16 (drop 16 b); gsr = gsr_of (get_or b 1 0); ivr = get_or b 2 0; board = board (get_or b 0 0) }

-- the system that a block holds; the units at or above the count are zero
unfoldable pub system_of : List ℕ → System
system_of b =
    let n = min (get_or b 0 0) 6 in
    record {
      descriptors = each (32 * n) (λ i d. descriptor_of (drop (descriptor_place i) b)) nothing.descriptors;
      units = each n (λ m u. unit_of (drop (unit_place m) b)) nothing.units;
      shared = shared_of b;
    }

-- the same for a block of any length: one that is too short holds no unit
unfoldable pub read : (block : List ℕ) → System
read b = cond (short b) nothing (system_of b)
