-- `accumulator_of` meets its contract: byte by byte. Assumes nothing.
use Rattle.std.proofs.Common.{rules}
use lib.ListN.{get_or}
use Rattle.pieces.proofs.Stores.{listed_by}
use Rattle.registers.specs.Unit.{local, marked, accumulator_of}
use Rattle.registers.proofs.unit.accumulator_of.Goals as goal

pub returns : goal.returns
unfolding accumulator_of
returns c =
    let made = c.from_fn.ensures.items in
    listed_by (local 0) 9 c.from_fn.result (λ i. marked (get_or c.args.values i 0) c.args.marks i) made.long
    (λ i h. let one = made.at i (local 0) h in search rules)
