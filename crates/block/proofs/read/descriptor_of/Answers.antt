-- `descriptor_of` meets its contract: each field from its bytes. Assumes nothing.
use Rattle.block.specs.Layout.{descriptor_of}
use Rattle.block.proofs.read.descriptor_of.Goals as goal

pub returns : goal.returns
unfolding descriptor_of
returns c =
    rw (
      c.join.ensures,
      c.join-2.ensures,
      c.join-3.ensures,
      c.clean.ensures,
    )
