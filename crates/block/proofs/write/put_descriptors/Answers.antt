-- `put_descriptors` meets its contract: a piece of 9 bytes in each turn. Assumes nothing.
use Rattle.std.proofs.Common.{refl, arith, length-take, length-drop}
use Rattle.block.specs.Layout.{descriptor_bytes}
use Rattle.pieces.proofs.Parts.{begun, next, ended}
use Rattle.block.proofs.write.put_descriptors.Goals as goal

pub loop-i-preserved : goal.loop-i-preserved
unfolding descriptor_bytes
loop-i-preserved c =
    let at = c.loop-i in
    let put = c.put_descriptor in
    next 9 _ (λ k. refl) _ _ at.b put.new.b at.i at.invariant (omega arith) put.auto.b put.ensures

pub returns : goal.returns
returns c = ended 9 _ _ _ _ _ c.loop-i.invariant c.loop-i-test.false

pub loop-i-init : goal.loop-i-init
loop-i-init c = begun 9 _ _ _

pub put_descriptor-requires : goal.put_descriptor-requires
put_descriptor-requires c = simp (length-take, length-drop) (omega arith)

pub shape_of-b : goal.shape_of-b
shape_of-b c = c.loop-i.invariant.1
