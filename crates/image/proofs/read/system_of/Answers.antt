-- `system_of` meets its contract: one part after the other. Assumes nothing.
use Rattle.image.specs.Image.{system_in}
use Rattle.image.proofs.read.system_of.Goals as goal

pub returns : goal.returns
unfolding system_in
returns c = rw (c.descriptors_of.ensures, c.shared_of.ensures, c.units_of.ensures)
