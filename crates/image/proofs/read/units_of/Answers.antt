-- `units_of` meets its contract: a unit is read of each block. Assumes nothing.
use Rattle.std.proofs.Common.{ℕ, cond, ltb, length, get_or, rules, tests}
use Rattle.registers.specs.Unit.{no_unit}
use Rattle.registers.specs.declared.unit.Unit.{Unit}
use Rattle.chip.specs.Reset.{nothing}
use Rattle.image.specs.Block.{unit_of}
use Rattle.image.specs.Image.{block_at}
use Rattle.image.proofs.Made.{made_of, made_is}
use Rattle.image.proofs.read.units_of.Goals as goal

pub returns : goal.returns
returns c =
    let bs = c.args.blocks.now in
    let unit : ℕ → Unit = λ m. cond (ltb m (length bs)) (unit_of (block_at bs m)) (get_or nothing.units m no_unit) in
    made_is no_unit (length bs) (λ m. unit_of (block_at bs m)) _ nothing.units c.from_fn.ensures.items.long
    (made_of _ _ unit (λ i y q k. search (rules, tests)) _ no_unit _ c.from_fn.ensures.items)
