-- `finish` meets its contract: the answer as a number, and the system written. Assumes nothing.
use Rattle.cleftromi.proofs.finish.Goals as goal

pub returns : goal.returns
returns c =
    rw (← c.values.ensures) record { value = c.number_of-number.ensures; state_after = c.write.ensures }
