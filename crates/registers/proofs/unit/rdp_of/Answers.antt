-- `rdp_of` meets its contract: the test by and tells NVR. Assumes nothing.
use mathlib.Core.Path.{refl}
use Rattle.masks.proofs.Bits.{clear_of, set_of}
use Rattle.registers.proofs.unit.rdp_of.Goals as goal

pub returns-then-value-ne0 : goal.returns-then-value-ne0
returns-then-value-ne0 c = rw (set_of c.args.value 7 128 c.if-value-ne0.true refl)

pub returns-else-value-ne0 : goal.returns-else-value-ne0
returns-else-value-ne0 c = rw (clear_of c.args.value 7 128 c.if-value-ne0.false refl)
