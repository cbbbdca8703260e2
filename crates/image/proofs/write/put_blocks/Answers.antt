-- `put_blocks` meets its contract: a piece of 512 bytes in each turn. Assumes nothing.
use Rattle.std.proofs.Common.{◌≡◌, ◌*◌, length, ◌∙◌, append-nil, arith, length-drop, drop_of_length-le, length-take, rules}
use Rattle.image.specs.Block.{block}
use Rattle.pieces.proofs.Parts.{begun, next, ended}
use Rattle.image.proofs.Words.{length_block}
use Rattle.image.proofs.write.put_blocks.Goals as goal

pub loop-m-preserved : goal.loop-m-preserved
loop-m-preserved c =
    let at = c.loop-m in
    let put = c.put_block in
    let s = c.args.system in
    let size : length s.shared.table ≡ 16 = search rules in
    next 512 (block s) (λ k. length_block s k size) _ _ at.image put.new.b at.m at.invariant (omega arith) put.auto.b
    put.ensures

pub returns : goal.returns
returns c =
    ended 512 _ _ _ _ _ c.loop-m.invariant c.loop-m-test.false
    ∙ rw (drop_of_length-le c.args.image.now {i = 512 * c.args.n} (omega arith), append-nil)

pub loop-m-init : goal.loop-m-init
loop-m-init c = begun 512 _ _ _

pub put_block-requires : goal.put_block-requires
put_block-requires c = simp (length-take, length-drop) (omega arith)

pub shape_of-image : goal.shape_of-image
shape_of-image c = c.loop-m.invariant.1
