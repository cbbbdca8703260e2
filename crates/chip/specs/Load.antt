-- Load descriptor: handbook 4.6.3.2.
use Rattle.std.specs.Prelude.{ℕ, ◌*◌, ◌%◌, ◌^◌, ◌<◌, ◌≡◌, ◌≢◌, Bool, true, ◌&&◌, cond, Option, Some, None, is_some}
use Rattle.descriptors.specs.Descriptor.{enabled, matches, collides, disable}
use Rattle.registers.specs.Unit.{NO, LD, none, report, for_load, segment}
use Rattle.chip.specs.System.{present, unit, descriptor, pointed, with_descriptor, in_each, in_all}
use Rattle.chip.specs.Search.{in_system, in_unit}
use Rattle.chip.specs.Answer.{reading}
use Rattle.chip.specs.Prepare.{prepare}
use Rattle.descriptors.specs.declared.descriptor.Descriptor.{Descriptor}
use Rattle.registers.specs.declared.unit.Unit.{Unit}
use Rattle.chip.specs.declared.system.System.{System}
use Rattle.chip.specs.declared.answer.Reading.{Reading}

-- a unit's part in a refused load: LD and the descriptor that it collides with, or none
abbrev pub blame : Option ℕ → Unit → Unit
blame (Some i) u = report LD (i % 32) u
blame None u = report NO none u

-- d, about to be loaded into place i, collides with the enabled descriptor at another place k: some page and some number exist
-- that both match
unfoldable pub CollidesWith : Descriptor → (i k : ℕ) → System → Type 0
CollidesWith d i k s =
    (page : ℕ) × (number : ℕ) × (page < 2 ^ 16) × (number < 2 ^ 8) × (k ≢ i)
    × (matches d page number ≡ true) × (matches (descriptor s k) page number ≡ true)

-- a collision: with a descriptor in some unit
abbrev pub Collision : Descriptor → (i : ℕ) → System → Type 0
Collision d i s = (k : ℕ) × (k < 32 * present s) × CollidesWith d i k s

-- the load is refused: d asks to be enabled, and some enabled descriptor collides with it
abbrev pub collision : Descriptor → System → Bool
collision d s = enabled d && is_some (in_system (collides d) s)

-- the segment d for place i, once descriptor i is disabled and cannot cause a collision
unfoldable pub load_at : (d : Descriptor) (i : ℕ) → System → Reading
load_at d i s =
    let t = with_descriptor s i (disable (descriptor s i)) in
    cond (collision d t)
    (reading 0xFF (in_each (λ k. blame (in_unit (collides d) k t)) t))
    (reading 0x00 (in_all (report NO none) (with_descriptor t i d)))

-- 4.6.3.2, by unit m's accumulator into the descriptor that its DP points at
unfoldable pub load : (m : ℕ) → System → Reading
load m s =
    let t = prepare for_load m s in
    load_at (segment (unit t m)) (pointed m t) t
