-- `own` meets its contract: rule after rule. Assumes nothing.
use Rattle.std.proofs.Common.{refl}
use Rattle.image.specs.Rules.{own}
use Rattle.image.proofs.block.own.Goals as goal

pub returns : goal.returns
unfolding own
returns c =
    rw (
      c.from.ensures,
      c.registers_clear.ensures,
      c.nvr_alone.ensures,
      c.statuses_allowed.ensures,
      c.reserved_zero.ensures,
    ) refl
