-- `Unit::take` meets its contract: byte by byte. Assumes nothing.
use Rattle.std.proofs.Common.{rules}
use mathlib.Core.Path.{◌≡◌}
use lib.ListN.{get_or}
use Rattle.pieces.specs.Pieces.{list_of}
use Rattle.pieces.proofs.Stores.{listed_by}
use Rattle.registers.specs.Unit.{local}
use Rattle.registers.proofs.unit.Unit.take.Goals as goal

pub returns : goal.returns
returns c =
    let made = c.map-accumulator.ensures.items in
    let whole : c.map-accumulator.result ≡ list_of 9 (λ i. local (get_or c.bytes.result i 0)) =
    listed_by (local 0) 9 c.map-accumulator.result (λ i. local (get_or c.bytes.result i 0)) made.long (λ i h. let one = made.at i 0 (local 0) h in search rules)
    in
    rw (whole, c.bytes.ensures)
