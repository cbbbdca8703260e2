-- `put_units` meets its contract: a piece of 16 bytes in each turn. Assumes nothing.
use Rattle.std.proofs.Common.{refl, arith, length-take, length-drop}
use Rattle.block.specs.Layout.{unit_bytes}
use Rattle.pieces.proofs.Parts.{begun, next, ended}
use Rattle.block.proofs.write.put_units.Goals as goal

pub loop-m-preserved : goal.loop-m-preserved
unfolding unit_bytes
loop-m-preserved c =
    let at = c.loop-m in
    let put = c.put_unit in
    next 16 _ (λ k. refl) _ _ at.b put.new.b at.m at.invariant (omega arith) put.auto.b put.ensures

pub returns : goal.returns
returns c = ended 16 _ _ _ _ _ c.loop-m.invariant c.loop-m-test.false

pub loop-m-init : goal.loop-m-init
loop-m-init c = begun 16 _ _ _

pub put_unit-requires : goal.put_unit-requires
put_unit-requires c = simp (length-take, length-drop) (omega arith)

pub shape_of-b : goal.shape_of-b
shape_of-b c = c.loop-m.invariant.1
