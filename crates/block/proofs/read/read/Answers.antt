-- `read` meets its contract: one part after the other. Assumes nothing.
use borrow.Author.Tests.{lt-ltb, le-ltb}
use native.Mathlib.Omega.{arith}
use Rattle.block.specs.Layout.{shared_of, system_of, read}
use Rattle.block.proofs.read.read.Goals as goal

pub returns-then-b-lt-SIZE : goal.returns-then-b-lt-SIZE
unfolding read
returns-then-b-lt-SIZE c = rw (lt-ltb _ _ c.if-b-lt-SIZE.true) c.nothing.ensures

pub returns : goal.returns
unfolding read system_of shared_of
returns c =
    rw (
      le-ltb _ _ c.if-b-lt-SIZE.false,
      c.descriptors_of.ensures,
      c.units_of.ensures,
      c.min-n.ensures,
      c.shared_of-shared.ensures,
    )

pub units_of-requires : goal.units_of-requires
units_of-requires c = (omega arith, omega arith)

pub descriptors_of-requires : goal.descriptors_of-requires
descriptors_of-requires c = (omega arith, omega arith)
