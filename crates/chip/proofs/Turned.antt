-- RW is alike in all units, if it was (handbook 3.2.4). This is of the calls of this crate alone, and no part of what holds of a
-- history: a state that comes from elsewhere may have it unequal.
--     steps_turned          after any steps
--     performed_turned      so after any call
-- Assumes nothing.
use Rattle.std.specs.Prelude.{Option, Some, None}
use Prim.Native.Nat.{ℕ, ◌^◌, ◌<◌}
use mathlib.Core.Path.{◌≡◌, refl, sym, ◌∙◌}
use mathlib.Core.Bool.{Bool}
use native.Mathlib.Omega.{arith}
use lib.ListN.{length, get_or-replicate}
use Rattle.registers.specs.Unit.{no_unit}
use Rattle.pieces.proofs.Stores.{stored}
use Rattle.registers.proofs.Becomes.{becomes_rw}
use Rattle.registers.specs.declared.unit.Unit.{Unit}
use Rattle.registers.specs.declared.shared.Board.{Board}
use Rattle.chip.specs.System.{present, unit, with_units, with_shared, with_descriptor, in_each, in_all}
use Rattle.chip.specs.Reset.{blank, uninitialized, nothing, unselected, fresh}
use Rattle.chip.specs.Call.{performed}
use Rattle.chip.specs.Clean.{Clean}
use Rattle.chip.specs.declared.system.System.{System}
use Rattle.chip.specs.declared.call.Call.{Call}
use Rattle.chip.proofs.Parts.{each_unit}
use Rattle.chip.proofs.Steps.{Steps, stays, renewed, units, turned, global, one_unit, shared, status, loaded, steps_clean, bus, performed_steps}

unfoldable pub Turned : System → Type 0
Turned s = (m k : ℕ) → m < present s → k < present s → (unit s m).rw ≡ (unit s k).rw

module _ (s : System) (six : length s.units ≡ 6) where
  units_turned : (f : ℕ → Unit → Unit) → ((m : ℕ) (u : Unit) → (f m u).rw ≡ u.rw) → Turned s → Turned (in_each f s)
  unfolding Turned with_units
  units_turned f h a m k hm hk =
      rw (each_unit s f m hm (omega arith), each_unit s f k hk (omega arith))
      (h m (unit s m) ∙ a m k hm hk ∙ sym (h k (unit s k)))

  all_turned : (reads : Bool) (f : Unit → Unit) → ((u : Unit) → (f u).rw ≡ reads) → Turned (in_all f s)
  unfolding Turned with_units
  all_turned reads f h m k hm hk =
      rw (each_unit s (λ m. f) m hm (omega arith), each_unit s (λ m. f) k hk (omega arith)) (h (unit s m) ∙ sym (h (unit s k)))

fresh_turned : (board : Board) (selected : Option ℕ) → Turned (fresh board selected)
unfolding fresh unselected Turned with_shared with_descriptor
fresh_turned board = elim [ None ↦ cleared | Some m ↦ cleared ]
  where
    cleared : Turned (unselected board)
    cleared =
        units_turned (with_shared nothing (uninitialized board)) refl _ (λ m u. refl)
        (λ m k hm hk. rw (get_or-replicate 6 m blank no_unit (omega arith), get_or-replicate 6 k blank no_unit (omega arith)) refl)

pub steps_turned : {s t : System} → Steps s t → Clean s → Turned s → Turned t
unfolding Turned with_units with_shared with_descriptor
steps_turned stays c a = a
steps_turned (renewed board selected good h) c a = fresh_turned board selected
steps_turned (units {t} f e k) c a = units_turned t (steps_clean k c).places.0 f (λ m u. becomes_rw (e m u)) (steps_turned k c a)
steps_turned (turned {t} reads f e k) c a = all_turned t (steps_clean k c).places.0 reads f (λ u. becomes_rw (e u))
steps_turned (global {t} i value h k) c a = units_turned t (steps_clean k c).places.0 _ (λ m u. refl) (steps_turned k c a)
steps_turned (one_unit {t} m u h e k) c a =
    let same = stored (λ k (v : Unit). v.rw ≡ (unit t k).rw) no_unit t.units m u (becomes_rw e) (λ k. refl) in
    λ i j hi hj. same i ∙ steps_turned k c a i j hi hj ∙ sym (same j)
steps_turned (shared h e keep k) c a = rw e (steps_turned k c a)
steps_turned (status i ssr h clear off k) c a = steps_turned k c a
steps_turned (loaded i d h clear off k) c a = steps_turned k c a

pub performed_turned : (c : Call) (s : System) → Clean s → bus c < 2 ^ 8 → Turned s → Turned (performed c s).system
performed_turned c s k v = steps_turned (performed_steps c s k v) k
