-- What the loop of `in_all` keeps: the units before this one are changed.
use Rattle.std.proofs.Common.{◌≡◌}
use Rattle.registers.specs.Change.{changed}
use Rattle.chip.specs.System.{each}
use Rattle.chip.proofs.system.System.in_all.Given as goal

abbrev pub invariant-loop-unit : goal.invariant-loop-unit
invariant-loop-unit l = l.unit-items ≡ each l.unit-index (λ m. changed l.change) l.initial.unit-items
