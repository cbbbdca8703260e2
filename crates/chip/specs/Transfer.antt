-- Segment status and transfer descriptor: handbook 4.6.2.3 and 4.6.2.4.
use Rattle.std.specs.Prelude.{ℕ}
use Rattle.descriptors.specs.Status.{rewritten}
use Rattle.descriptors.specs.Descriptor.{with_ssr}
use Rattle.registers.specs.Unit.{take}
use Rattle.chip.specs.System.{unit, descriptor, pointed, with_unit, with_descriptor}
use Rattle.chip.specs.Answer.{reading}
use Rattle.chip.specs.declared.system.System.{System}
use Rattle.chip.specs.declared.answer.Reading.{Reading}

-- 4.6.2.3: the descriptor's contents go into the accumulator, its SSR is gated out
unfoldable pub transfer : (m : ℕ) → System → Reading
transfer m s =
    let d = descriptor s (pointed m s) in
    reading d.ssr (with_unit s m (take d (unit s m)))

-- 4.6.2.4
unfoldable pub write_status : (m value : ℕ) → System → System
write_status m value s =
    let d = descriptor s (pointed m s) in
    with_descriptor s (pointed m s) (with_ssr d (rewritten d.ssr value))
