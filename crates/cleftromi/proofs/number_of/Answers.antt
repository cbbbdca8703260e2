-- `number_of` meets its contract: each field fits its bits, so that no sum wraps. Assumes nothing.
use Rattle.registers.proofs.Numbers.{flag_byte}
use Rattle.cleftromi.specs.Fields.{number_of}
use Rattle.cleftromi.proofs.number_of.Goals as goal

pub returns : goal.returns
unfolding number_of
returns c =
    simp (
      c.from.ensures,
      c.from-2.ensures,
      c.from-3.ensures,
      c.from-4.ensures,
      c.from-5.ensures,
      c.from-6.ensures,
      c.from-7.ensures,
      c.from-8.ensures,
      c.from-9.ensures,
      flag_byte,
    )
