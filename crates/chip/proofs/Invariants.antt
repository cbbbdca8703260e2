-- What every call keeps, of a system.
--     Invariants s        it is in clean form, of one to six units, its enabled descriptors are apart, and its marked bytes agree
--     performed_kept      after any call
--     started, was_reset      and after a granted start or reset of any system
-- Assumes nothing.
use Rattle.std.specs.Prelude.{Option}
use Prim.Native.Nat.{ℕ, ◌<◌, ◌^◌}
use mathlib.Core.Path.{◌≡◌}
use mathlib.Core.Bool.{false}
use Rattle.registers.specs.declared.shared.Board.{Board}
use Rattle.chip.specs.Answer.{granted, first_of, numbered, miscounted}
use Rattle.chip.specs.Reset.{fresh, unselectable}
use Rattle.chip.specs.Call.{checks, performed}
use Rattle.chip.specs.Clean.{Clean}
use Rattle.chip.specs.declared.system.System.{System}
use Rattle.chip.specs.declared.call.Call.{Call}
use Rattle.chip.specs.declared.call.Call.TheVariants.{Start, Reset}
use Rattle.chip.proofs.Counts.{well_counted}
use Rattle.chip.proofs.Checked.{performed_granted}
use Rattle.chip.proofs.Clean.{fresh_clean}
use Rattle.chip.proofs.Counted.{Counted, fresh_counted, steps_counted}
use Rattle.chip.proofs.Steps.{steps_clean, bus, performed_steps}
use Rattle.chip.proofs.Once.{Apart}
use Rattle.chip.proofs.Apart.{fresh_apart, steps_apart}
use Rattle.chip.proofs.Marked.{Agreed, fresh_agreed, steps_agreed}

pub record Invariants (s : System) : Type 0 where
  pub clean : Clean s
  pub counted : Counted s
  pub apart : Apart s
  pub agreed : Agreed s

pub performed_kept : (c : Call) (s : System) → Invariants s → bus c < 2 ^ 8 → Invariants (performed c s).system
performed_kept c s k v =
    let p = performed_steps c s k.clean v in
    record {
      clean = steps_clean p k.clean;
      counted = steps_counted p k.counted;
      apart = steps_apart p k.clean k.apart;
      agreed = steps_agreed p k.agreed;
    }

fresh_kept : (board : Board) (selected : Option ℕ) → miscounted board.count ≡ false → unselectable selected board.count ≡ false
    → Invariants (fresh board selected)
fresh_kept board selected good h =
    let few = well_counted board.count good in
    record {
      clean = fresh_clean board selected few h;
      counted = fresh_counted board selected good;
      apart = fresh_apart board selected few h;
      agreed = fresh_agreed board selected;
    }

module _ (s : System) where
  pub started : (count : ℕ) (selected : Option ℕ) → let c = Start count selected in
      first_of (numbered (checks c s)) ≡ 0 → Invariants (performed c s).system
  unfolding granted
  started count selected e =
      let g = performed_granted (Start count selected) s e in
      rw g.1 (fresh_kept _ selected g.0.0 g.0.1.0)

  pub was_reset : (selected : Option ℕ) → let c = Reset selected in
      first_of (numbered (checks c s)) ≡ 0 → Invariants (performed c s).system
  unfolding granted
  was_reset selected e =
      let g = performed_granted (Reset selected) s e in
      rw g.1 (fresh_kept _ selected g.0.0 g.0.1.0)
