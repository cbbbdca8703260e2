-- `System::irq` meets its contract: a descriptor of some unit has IP set. Assumes nothing.
use Rattle.std.proofs.Common.{◌*◌, ◌≡◌, ◌∙◌, length, rules, arith}
use borrow.Author.Tests.{tests}
use Rattle.registers.proofs.Numbers.{counted}
use Rattle.std.proofs.lemmas.Iterator.{YieldsList-from_slice}
use Rattle.std.proofs.lemmas.Iterator.Search.{any_from_yields_List}
use Rattle.descriptors.specs.Descriptor.{pending, zeros}
use Rattle.chip.specs.System.{present}
use Rattle.chip.proofs.Sought.{any_first}
use Rattle.chip.proofs.system.System.irq.Goals as goal

pub returns-then-self : goal.returns-then-self
returns-then-self c =
    let s = c.args.self.now in
    let size : length s.descriptors ≡ 192 = search (rules, counted) in
    any_from_yields_List pending _ _ _ c.any.ensures.ran (YieldsList-from_slice c.in_system.result.now cc) (λ x b q k. search (rules, tests))
    ∙ rw (c.in_system.ensures, c.if-self.true) (any_first pending zeros s.descriptors 0 (32 * present s) (omega (arith, size)))
