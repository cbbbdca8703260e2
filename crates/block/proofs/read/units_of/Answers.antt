-- `units_of` meets its contract: the first units are read, the others are as they were. Assumes nothing.
use Rattle.std.proofs.Common.{◌≡◌, refl, ap, ◌∙◌, length, drop, rules, arith}
use Rattle.registers.specs.Unit.{no_unit}
use Rattle.registers.proofs.Numbers.{counted}
use Rattle.chip.specs.System.{each}
use Rattle.chip.specs.declared.system.System.{System}
use Rattle.chip.proofs.Each.{front_next, front_ended}
use Rattle.pieces.proofs.Parts.{rest}
use Rattle.block.specs.Layout.{unit_place, unit_of}
use Rattle.block.proofs.read.units_of.Goals as goal

pub loop-m-init : goal.loop-m-init
unfolding each
loop-m-init c = refl

pub loop-m-preserved : goal.loop-m-preserved
loop-m-preserved c =
    front_next no_unit c.args.n (λ k x. unit_of (drop (unit_place k) c.args.b.now)) c.nothing.result.units c.loop-m.m _ _ c.loop-m.invariant
    (rw rest at c.unit_of.ensures)

pub returns : goal.returns
returns c =
    let all : length c.nothing.result.units ≡ 6 = search (rules, counted) in
    front_ended no_unit c.args.n (λ k x. unit_of (drop (unit_place k) c.args.b.now)) c.nothing.result.units c.loop-m.m _ (omega (arith, all))
    c.loop-m.invariant c.loop-m.auto.m-end c.loop-m-test.false
    ∙ ap (λ (s : System). each c.args.n (λ k x. unit_of (drop (unit_place k) c.args.b.now)) s.units) c.nothing.ensures
