-- The count is one to six, if it was: no step changes it but a fresh start, whose own is. Assumes nothing.
use Rattle.std.specs.Prelude.{Option, Some, None, ℕ}
use mathlib.Core.Path.{◌≡◌}
use mathlib.Core.Bool.{false}
use Rattle.registers.specs.declared.shared.Board.{Board}
use Rattle.chip.specs.System.{with_units, with_shared, with_descriptor}
use Rattle.chip.specs.Answer.{miscounted}
use Rattle.chip.specs.Reset.{unselected, fresh}
use Rattle.chip.specs.declared.system.System.{System}
use Rattle.chip.proofs.Steps.{Steps, stays, renewed, units, turned, global, one_unit, shared, status, loaded}

abbrev pub Counted : System → Type 0
Counted s = miscounted s.shared.board.count ≡ false

pub fresh_counted : (board : Board) (selected : Option ℕ) → miscounted board.count ≡ false → Counted (fresh board selected)
unfolding fresh unselected with_units with_shared with_descriptor
fresh_counted board None good = good
fresh_counted board (Some m) good = good

pub steps_counted : {s t : System} → Steps s t → Counted s → Counted t
unfolding with_units with_shared with_descriptor
steps_counted stays a = a
steps_counted (renewed board selected good h) a = fresh_counted board selected good
steps_counted (units f e k) a = steps_counted k a
steps_counted (turned reads f e k) a = steps_counted k a
steps_counted (global i value h k) a = steps_counted k a
steps_counted (one_unit m u h e k) a = steps_counted k a
steps_counted (shared h e keep k) a = rw e (steps_counted k a)
steps_counted (status i ssr h clear off k) a = steps_counted k a
steps_counted (loaded i d h clear off k) a = steps_counted k a
