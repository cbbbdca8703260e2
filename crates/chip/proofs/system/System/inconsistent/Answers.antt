-- `System::inconsistent` meets its contract: some unit is not consistent. Assumes nothing.
use Rattle.std.proofs.Common.{◌≡◌, ◌∙◌, not, Bool, take, length, rules, arith}
use borrow.Author.Tests.{tests}
use Rattle.std.proofs.lemmas.Iterator.{YieldsList-from_slice}
use Rattle.std.proofs.lemmas.Iterator.Search.{any_from_yields_List}
use Rattle.registers.specs.Unit.{needed, consistent, no_unit}
use Rattle.registers.specs.declared.unit.Unit.{Unit}
use Rattle.registers.proofs.Numbers.{counted}
use Rattle.chip.specs.System.{present}
use Rattle.chip.proofs.Sought.{any_first}
use Rattle.chip.proofs.system.System.inconsistent.Goals as goal

pub returns : goal.returns
returns c =
    let s = c.args.self in
    let size : length s.units ≡ 6 = search (rules, counted) in
    let sought : Unit → Bool = λ u. not (consistent (needed c.args.bytes) u) in
    any_from_yields_List sought _ _ _ c.any.ensures.ran (YieldsList-from_slice (take (present s) s.units) (rw (← c.present-n.ensures) cc)) (λ x b q k. search (rules, tests))
    ∙ any_first sought no_unit s.units 0 (present s) (omega (arith, size))
