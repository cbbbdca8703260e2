-- `agreed` meets its contract: each unit present with those before it. Assumes nothing.
use Rattle.std.proofs.Common.{true, refl, ◌∙◌, arith, rules, tests}
use Rattle.registers.specs.Unit.{no_unit}
use Rattle.chip.specs.System.{unit}
use Rattle.image.specs.Rules.{same_marked, agreed}
use Rattle.image.proofs.Pairs.{of_first}
use Rattle.image.proofs.rules.agreed.Goals as goal

pub returns : goal.returns
unfolding agreed
returns c =
    let s = c.args.system in
    c.each_with_those_before.ensures no_unit (λ u. true) same_marked (λ x b r. search (rules, tests)) (λ x y b r. search (rules, tests))
    ∙ rw c.present.ensures
    (of_first no_unit (λ u. true) same_marked _ s.units (λ i k. same_marked (unit s i) (unit s k)) (omega arith) (λ i k. refl))
