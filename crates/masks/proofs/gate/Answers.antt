-- `gate` meets its contract: `gate_masked` at 16 bits. Assumes nothing.
use Rattle.masks.proofs.Laws.{gate_masked}
use Rattle.masks.proofs.gate.Goals as goal

pub returns : goal.returns
returns c = gate_masked 16 c.args.mask c.args.passed c.args.gated c.ranges.mask.fits
