-- `shared_of` meets its contract: each register from its bytes. Assumes nothing.
use Rattle.block.specs.Layout.{shared_of}
use Rattle.block.proofs.read.shared_of.Goals as goal

pub returns : goal.returns
unfolding shared_of
returns c = rw (c.copy_from_slice.ensures.after, c.from.ensures, c.from-2.ensures)
