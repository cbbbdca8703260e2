-- `cleftromi_access` meets its contract: the call by its name. Assumes nothing.
use Rattle.cleftromi.proofs.cleftromi_access.Goals as goal

pub returns : goal.returns
returns c = rw (← c.cycle_by-cycle.ensures) c.run.ensures
