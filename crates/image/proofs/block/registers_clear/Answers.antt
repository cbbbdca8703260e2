-- `registers_clear` meets its contract: each register by its bits. Assumes nothing.
use Rattle.std.proofs.Common.{refl, div-one}
use Rattle.image.proofs.block.registers_clear.Goals as goal

pub returns : goal.returns
returns c = rw (c.join-marks.ensures, div-one) refl
