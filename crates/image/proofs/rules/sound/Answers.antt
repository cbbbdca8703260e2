-- `sound` meets its contract: by its `&&`. Assumes nothing.
use Rattle.masks.proofs.Flags.{and_taken, and_left}
use Rattle.image.proofs.rules.sound.Goals as goal

pub returns-then-agreed : goal.returns-then-agreed
returns-then-agreed c = and_taken c.agreed.ensures c.if-agreed.true c.apart.ensures

pub returns-else-agreed : goal.returns-else-agreed
returns-else-agreed c = and_left _ c.agreed.ensures c.if-agreed.false
