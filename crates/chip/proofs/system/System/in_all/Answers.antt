-- `System::in_all` meets its contract: the units that there are have it, the others are as they were. Assumes nothing.
use Rattle.std.proofs.Common.{◌≡◌, refl, ap, length, rules, arith}
use Rattle.registers.specs.Change.{changed}
use Rattle.registers.specs.Unit.{no_unit}
use Rattle.registers.proofs.Numbers.{counted}
use Rattle.chip.specs.System.{each, with_units}
use Rattle.chip.proofs.Each.{front_next, front_ended}
use Rattle.chip.proofs.system.System.in_all.Goals as goal

pub loop-unit-init : goal.loop-unit-init
unfolding each
loop-unit-init c = refl

pub loop-unit-preserved : goal.loop-unit-preserved
loop-unit-preserved c =
    front_next no_unit c.present-n.result (λ m. changed c.args.change) c.args.self.units c.loop-unit.unit-index _ _ c.loop-unit.invariant c.change.ensures

pub returns : goal.returns
unfolding with_units
returns c =
    let all : length c.args.self.units ≡ 6 = search (rules, counted) in
    rw (← c.present-n.ensures)
    (ap (with_units c.args.self) (front_ended no_unit c.present-n.result (λ m. changed c.args.change) c.args.self.units c.loop-unit.unit-index _ (omega (arith, all, c.present-n.ensures))
    c.loop-unit.invariant c.loop-unit.auto.unit-index-end c.loop-unit-test.false))
