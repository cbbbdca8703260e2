-- No stale neighbour (handbook 3.2.4): a byte of the accumulator that is marked global in two units has the same value in both.
--     steps_agreed      after any steps, and so after any call
-- Assumes nothing.
use Rattle.std.specs.Prelude.{Option, Some, None}
use Prim.Native.Nat.{ℕ, zero, suc, ◌<◌}
use mathlib.Core.Path.{◌≡◌, refl}
use mathlib.Core.Bool.{true, false≢true}
use mathlib.Core.List.{List, [], ◌∷◌}
use native.Mathlib.Omega.{arith}
use lib.ListN.{get_or, set, get_or-replicate}
use Rattle.registers.specs.Unit.{global as marked, local, no_unit, byte, ac, write_ac}
use Rattle.registers.specs.declared.unit.Byte.{Byte}
use Rattle.registers.specs.declared.unit.Unit.{Unit}
use Rattle.registers.specs.declared.shared.Board.{Board}
use Rattle.chip.specs.System.{present, unit, with_units, with_shared, with_descriptor, with_unit, in_each, in_all}
use Rattle.chip.specs.Reset.{blank, unselected, fresh}
use Rattle.chip.specs.declared.system.System.{System}
use Rattle.pieces.proofs.Stores.{stored}
use Rattle.registers.proofs.Becomes.{Fewer, becomes_fewer}
use Rattle.chip.proofs.Each.{each_related}
use Rattle.chip.proofs.Steps.{Steps, stays, renewed, units, turned, global, one_unit, shared, status, loaded}

unfoldable pub Agreed : System → Type 0
Agreed s =
    (i m k : ℕ) → m < present s → k < present s
    → (byte (unit s m) i).global ≡ true → (byte (unit s k) i).global ≡ true → ac (unit s m) i ≡ ac (unit s k) i

fewer_agreed : (s : System) (us : List Unit) → ((k : ℕ) → k < present s → Fewer (unit s k) (get_or us k no_unit))
    → Agreed s → Agreed (with_units s us)
unfolding Agreed with_units
fewer_agreed s us h a i m k hm hk gm gk =
    let em = h m hm i gm in
    let ek = h k hk i gk in
    rw (em, ek) (a i m k hm hk (rw em at gm) (rw ek at gk))

units_agreed : (s : System) (f : ℕ → Unit → Unit) → ((m : ℕ) (u : Unit) → Fewer u (f m u)) → Agreed s → Agreed (in_each f s)
units_agreed s f h = fewer_agreed s _ (each_related Fewer no_unit (present s) f s.units (λ i g. refl) h)

unit_agreed : (s : System) (m : ℕ) (u : Unit) → Fewer (unit s m) u → Agreed s → Agreed (with_unit s m u)
unit_agreed s m u h =
    fewer_agreed s _ (λ k l. stored (λ k v. Fewer (unit s k) v) no_unit s.units m u h (λ k i g. refl) k)

abbrev Alike : (b c : Byte) → Type 0
Alike b c = b.global ≡ true → c.global ≡ true → b.value ≡ c.value

-- a store of the same byte in two accumulators, of which either may be too short for it
both_stored : (l r : List Byte) (i : ℕ) (x : Byte) (j : ℕ) → Alike (get_or l j (local 0)) (get_or r j (local 0))
    → Alike (get_or (set l i x) j (local 0)) (get_or (set r i x) j (local 0))
both_stored [] r i x j h g k = absurd (false≢true g)
both_stored (b ∷ l) [] i x j h g k = absurd (false≢true k)
both_stored (b ∷ l) (c ∷ r) zero x zero h g k = refl
both_stored (b ∷ l) (c ∷ r) zero x (suc j) h g k = h g k
both_stored (b ∷ l) (c ∷ r) (suc i) x zero h g k = h g k
both_stored (b ∷ l) (c ∷ r) (suc i) x (suc j) h g k = both_stored l r i x j h g k

-- 4.6.3.1: a global write
global_agreed : (s : System) (i value : ℕ) → Agreed s → Agreed (in_all (write_ac i value) s)
unfolding Agreed with_units
global_agreed s i value a j m k hm hk =
    rw (at m hm, at k hk) (both_stored (unit s m).accumulator (unit s k).accumulator i (marked value) j (a j m k hm hk))
  where
    at : (k : ℕ) → k < present s → unit (in_all (write_ac i value) s) k ≡ write_ac i value (unit s k)
    at = each_related (λ u v. v ≡ write_ac i value u) no_unit (present s) (λ k. write_ac i value) s.units refl (λ k u. refl)

-- 4.5.1
pub fresh_agreed : (board : Board) (selected : Option ℕ) → Agreed (fresh board selected)
unfolding fresh unselected Agreed with_shared with_descriptor
fresh_agreed board = elim [ None ↦ cleared | Some m ↦ cleared ]
  where
    cleared : Agreed (unselected board)
    cleared =
        units_agreed _ _ (λ m u i g. refl)
        (λ i m k hm hk. rw (get_or-replicate 6 m blank no_unit (omega arith), get_or-replicate 6 k blank no_unit (omega arith)) (λ gm gk. refl))

pub steps_agreed : {s t : System} → Steps s t → Agreed s → Agreed t
unfolding Agreed with_shared with_descriptor
steps_agreed stays a = a
steps_agreed (renewed board selected good h) a = fresh_agreed board selected
steps_agreed (units {t} f e k) a = units_agreed t f (λ m u. becomes_fewer (e m u)) (steps_agreed k a)
steps_agreed (turned {t} reads f e k) a = units_agreed t _ (λ m u. becomes_fewer (e u)) (steps_agreed k a)
steps_agreed (global {t} i value h k) a = global_agreed t i value (steps_agreed k a)
steps_agreed (one_unit {t} m u h e k) a = unit_agreed t m u (becomes_fewer e) (steps_agreed k a)
steps_agreed (shared h e keep k) a = rw e (steps_agreed k a)
steps_agreed (status i ssr h clear off k) a = steps_agreed k a
steps_agreed (loaded i d h clear off k) a = steps_agreed k a
