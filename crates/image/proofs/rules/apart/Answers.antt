-- `apart` meets its contract: each descriptor of a unit present with those before it. Assumes nothing.
use Rattle.std.proofs.Common.{◌≡◌, Bool, true, false, not, ◌&&◌, ◌||◌, refl, ◌∙◌, arith, rules, tests}
use Rattle.descriptors.specs.Descriptor.{zeros, enabled, collides}
use Rattle.descriptors.specs.declared.descriptor.Descriptor.{Descriptor}
use Rattle.chip.specs.System.{descriptor}
use Rattle.image.specs.Rules.{apart}
use Rattle.image.proofs.Pairs.{of_first}
use Rattle.image.proofs.rules.apart.Goals as goal

abbrev clear_of : (d other : Descriptor) → Bool
clear_of d other = not (collides d other)

not_both : (a b : Bool) → not a || not b ≡ not (a && b)
not_both true b = refl
not_both false b = refl

pub returns : goal.returns
unfolding apart
returns c =
    let s = c.args.system in
    c.each_with_those_before.ensures zeros enabled clear_of (λ x b r. search (rules, tests)) (λ x y b r. search (rules, tests))
    ∙ rw c.present.ensures
    (of_first zeros enabled clear_of _ s.descriptors _ (omega arith) (λ i k. not_both (enabled (descriptor s i)) (collides (descriptor s i) (descriptor s k))))
