-- `System::lip` meets its contract. Assumes nothing.
use Rattle.std.proofs.Common.{◌*◌, ◌≡◌, ◌∙◌, length, rules, arith}
use borrow.Author.Tests.{tests}
use Rattle.std.proofs.lemmas.Iterator.{YieldsList-from_slice}
use Rattle.std.proofs.lemmas.Iterator.Search.{any_from_yields_List}
use Rattle.descriptors.specs.Descriptor.{pending, zeros}
use Rattle.registers.proofs.Numbers.{counted}
use Rattle.chip.proofs.Sought.{any_first}
use Rattle.chip.proofs.system.System.lip.Goals as goal

pub returns : goal.returns
returns c =
    let s = c.args.self in
    let size : length s.descriptors ≡ 192 = search (rules, counted) in
    any_from_yields_List pending _ _ _ c.any.ensures.ran (YieldsList-from_slice c.in_unit.result.now cc) (λ x b q k. search (rules, tests))
    ∙ rw c.in_unit.ensures (any_first pending zeros s.descriptors (32 * c.args.m.value) 32 (omega (arith, size, c.args.m.below)))
