-- `shared_of` meets its contract: each register from its bytes. Assumes nothing.
use Rattle.std.proofs.Common.{◌≡◌, length, refl, arith, rules}
use Rattle.image.specs.Block.{shared_of}
use Rattle.image.proofs.Cut.{part_listed}
use Rattle.image.proofs.block.shared_of.Goals as goal

pub returns : goal.returns
unfolding shared_of
returns c =
    let b = c.args.b.now in
    let long : length b ≡ 512 = search rules in
    rw (c.copy_from_slice.ensures.after, c.from.ensures, c.from-2.ensures, part_listed 2 16 b (omega arith)) refl
