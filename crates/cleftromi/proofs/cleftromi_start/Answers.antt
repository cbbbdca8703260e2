-- `cleftromi_start` meets its contract: the call by its name. Assumes nothing.
use Rattle.cleftromi.proofs.cleftromi_start.Goals as goal

pub returns : goal.returns
returns c = rw (← c.selected_by-selected.ensures) c.run.ensures
