-- What the loop of `Unit::marks` keeps: the field of the marks so far.
use mathlib.Core.Path.{◌≡◌}
use lib.ListN.{get_or}
use Rattle.masks.specs.Fields.{field}
use Rattle.registers.specs.Unit.{local}
use Rattle.registers.proofs.unit.Unit.marks.Given as goal

abbrev pub invariant-loop-i : goal.invariant-loop-i
invariant-loop-i l = l.marks ≡ field l.i (λ i. (get_or l.fn.self.accumulator i (local 0)).global)
