-- `cleftromi_register` meets its contract: the call by its name. Assumes nothing.
use Rattle.cleftromi.proofs.cleftromi_register.Goals as goal

pub returns : goal.returns
returns c = rw (← c.operation_by-operation.ensures) c.run.ensures
