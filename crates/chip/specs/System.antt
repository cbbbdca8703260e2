-- One to six units on one board: handbook 4.2, document 01 "What the model covers".
use Rattle.std.specs.Prelude.{ℕ, suc, zero, ◌+◌, ◌*◌, ◌%◌, min, List, [], ◌∷◌, get_or, set}
use Rattle.descriptors.specs.Descriptor.{zeros}
use Rattle.registers.specs.Unit.{no_unit}
use Rattle.descriptors.specs.declared.descriptor.Descriptor.{Descriptor}
use Rattle.registers.specs.declared.unit.Unit.{Unit}
use Rattle.registers.specs.declared.shared.Shared.{Shared}
use Rattle.chip.specs.declared.system.System.{System}

-- how many units there are. A count above six is refused before anything is done; it counts as six
-- here, so that each definition speaks of every system
abbrev pub present : System → ℕ
present s = min s.shared.board.count 6

-- unit m
abbrev pub unit : System → (m : ℕ) → Unit
unit s m = get_or s.units m no_unit

-- the descriptor at place i of the 192: descriptor i % 32 of unit i / 32
abbrev pub descriptor : System → (i : ℕ) → Descriptor
descriptor s i = get_or s.descriptors i zeros

-- 3.2.5: the place that the DP of unit m points at
abbrev pub pointed : (m : ℕ) → System → ℕ
pointed m s = 32 * m + (unit s m).dp % 32

-- The system with one part changed.
unfoldable pub with_units : System → List Unit → System
with_units s us = record { descriptors = s.descriptors; units = us; shared = s.shared }

unfoldable pub with_shared : System → Shared → System
with_shared s h = record { descriptors = s.descriptors; units = s.units; shared = h }

unfoldable pub with_descriptor : System → (i : ℕ) → Descriptor → System
with_descriptor s i d = record { descriptors = set s.descriptors i d; units = s.units; shared = s.shared }

abbrev pub with_unit : System → (m : ℕ) → Unit → System
with_unit s m u = with_units s (set s.units m u)

-- f of each of the first n, with its number
unfoldable pub each : {A : Type 0} → (n : ℕ) → (ℕ → A → A) → List A → List A
each zero f xs = xs
each (suc n) f [] = []
each (suc n) f (x ∷ xs) = f 0 x ∷ each n (λ i. f (suc i)) xs

-- 4.6.3: performed in parallel on all MMUs in the system; f is told which unit
abbrev pub in_each : (ℕ → Unit → Unit) → System → System
in_each f s = with_units s (each (present s) f s.units)

abbrev pub in_all : (Unit → Unit) → System → System
in_all f = in_each (λ m. f)
