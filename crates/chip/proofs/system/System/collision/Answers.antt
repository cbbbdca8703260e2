-- `System::collision` meets its contract: the segment asks to be enabled, and it collides with some descriptor. Assumes nothing.
use Rattle.std.proofs.Common.{◌*◌, ◌≡◌, ◌∙◌, length, rules, arith}
use borrow.Author.Tests.{tests}
use Rattle.std.proofs.lemmas.Iterator.{YieldsList-from_slice}
use Rattle.std.proofs.lemmas.Iterator.Search.{any_from_yields_List}
use Rattle.descriptors.specs.Descriptor.{collides, zeros}
use Rattle.registers.proofs.Numbers.{counted}
use Rattle.chip.specs.System.{present}
use Rattle.chip.proofs.Sought.{any_first}
use Rattle.chip.proofs.system.System.collision.Goals as goal

pub returns-then-enabled : goal.returns-then-enabled
returns-then-enabled c =
    let s = c.args.self in
    let size : length s.descriptors ≡ 192 = search (rules, counted) in
    any_from_yields_List (collides c.args.d) _ _ _ c.any.ensures.ran (YieldsList-from_slice c.in_system.result.now cc) (λ x b q k. search (rules, tests))
    ∙ rw (c.in_system.ensures, ← c.enabled.ensures, c.if-enabled.true) (any_first (collides c.args.d) zeros s.descriptors 0 (32 * present s) (omega (arith, size)))
