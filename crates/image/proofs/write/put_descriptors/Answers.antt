-- `put_descriptors` meets its contract: a piece of 9 bytes in each turn. Assumes nothing.
use Rattle.std.proofs.Common.{refl, ◌∙◌, arith}
use Rattle.pieces.proofs.Parts.{begun, placed, ended}
use Rattle.image.proofs.write.put_descriptors.Goals as goal

pub loop-n-preserved : goal.loop-n-preserved
loop-n-preserved c =
    let at = c.loop-n in
    let put = c.copy_from_slice in
    placed 9 _ (λ k. refl) _ _ at.b put.new.self at.n _ (omega arith) at.invariant (omega arith) put.ensures.len (put.ensures.after ∙ rw c.bytes.ensures refl)

pub returns : goal.returns
returns c = ended 9 _ _ _ _ _ c.loop-n.invariant c.loop-n-test.false

pub loop-n-init : goal.loop-n-init
loop-n-init c = begun 9 _ _ _
