-- A loop over the units that are there, from the first on.
--     Done s t n m f     of the n units of s those below m are done by f, and t is the system so far
--     begun, next, ended     before the first turn; after a turn; after the last
-- Assumes nothing.
use Prim.Native.Nat.{ℕ, ◌+◌, ◌<◌, ◌≤◌}
use mathlib.Core.Path.{◌≡◌, refl, ap, ◌∙◌}
use mathlib.Core.List.{List}
use native.Mathlib.Omega.{arith}
use lib.ListN.{set}
use Rattle.registers.specs.Unit.{no_unit}
use Rattle.registers.specs.declared.unit.Unit.{Unit}
use Rattle.chip.specs.System.{present, unit, with_units, each, in_each}
use Rattle.chip.specs.declared.system.System.{System}
use Rattle.chip.proofs.Each.{each_more}

abbrev pub Done : System → System → (n m : ℕ) → (ℕ → Unit → Unit) → Type 0
Done s t n m f = (n ≤ 6) × (m ≤ n) × (t ≡ with_units s (each m f s.units))

pub begun : (s : System) (n : ℕ) (f : ℕ → Unit → Unit) → n ≡ present s → Done s s n 0 f
unfolding each with_units
begun s n f e = (omega arith, omega arith, refl)

pub next : (s t : System) (n m : ℕ) (f : ℕ → Unit → Unit) (u : Unit) → Done s t n m f → m < n → u ≡ f m (unit t m)
    → Done s (with_units t (set t.units m u)) n (m + 1) f
unfolding with_units
next s t n m f u h l q = (
  h.0,
  omega arith,
  rw (q, h.2) (ap (λ (us : List Unit). with_units s us) (each_more no_unit m f s.units)),
)

pub ended : (s t : System) (n m : ℕ) (f : ℕ → Unit → Unit) → Done s t n m f → n ≤ m → n ≡ present s → t ≡ in_each f s
ended s t n m f h l e = let all : m ≡ present s = omega arith in h.2 ∙ rw all
