-- `unit_of` meets its contract: each register from its bytes. Assumes nothing.
use Rattle.std.proofs.Common.{arith}
use Rattle.pieces.proofs.Stores.{taken_listed}
use Rattle.block.specs.Layout.{unit_of}
use Rattle.block.proofs.read.unit_of.Goals as goal

pub returns : goal.returns
unfolding unit_of
returns c =
    rw (
      c.accumulator_of.ensures,
      c.copy_from_slice.ensures.after,
      taken_listed 0 9 c.args.b.now (omega arith),
      c.join.ensures,
      c.rdp_of.ensures,
      c.l_of.ensures,
      c.rw_of.ensures,
    )
