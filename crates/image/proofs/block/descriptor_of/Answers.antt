-- `descriptor_of` meets its contract: each field from its bytes. Assumes nothing.
use Rattle.std.proofs.Common.{◌≡◌, ◌+◌, ◌-◌, ◌*◌, length, take, drop, rules}
use Rattle.pieces.proofs.Parts.{rest}
use Rattle.image.specs.Block.{descriptor_of}
use Rattle.image.proofs.block.descriptor_of.Goals as goal

pub returns : goal.returns
unfolding descriptor_of
returns c =
    let b = c.args.b.now in
    let from = 34 + 9 * c.args.n in
    let long : length b ≡ 512 = search rules in
    let part : take (512 - from) (drop from b) ≡ drop from b = rw (← long) (rest from b) in
    rw (
      c.join.ensures,
      c.join-2.ensures,
      c.join-3.ensures,
      part,
    )
