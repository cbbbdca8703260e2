-- `unit_of` meets its contract: each register from its bytes. Assumes nothing.
use Rattle.std.proofs.Common.{◌≡◌, length, refl, arith, rules}
use Rattle.image.specs.Block.{unit_of}
use Rattle.image.proofs.Cut.{part_listed}
use Rattle.image.proofs.block.unit_of.Goals as goal

pub returns : goal.returns
unfolding unit_of
returns c =
    let b = c.args.b.now in
    let long : length b ≡ 512 = search rules in
    rw (
      c.accumulator_of.ensures,
      c.copy_from_slice.ensures.after,
      c.join.ensures,
      c.l_of.ensures,
      c.rw_of.ensures,
      part_listed 18 9 b (omega arith),
    ) refl
