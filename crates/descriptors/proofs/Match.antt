-- The match answer (document 02, P4), and what it says of a match.
--     yes_matches       it is yes exactly where there is a match
--     space_alone_is    and the space alone differs exactly where the segment is enabled and has a range match and no space match
--     space_alone_law   the same, test by test
-- Assumes nothing.
use Prim.Native.Nat.{ℕ}
use mathlib.Core.Path.{◌≡◌, refl, sym}
use mathlib.Core.Logic.{◌↔◌}
use mathlib.Core.Bool.{Bool, true, false, ◌&&◌, not, cond, false≢true}
use Rattle.descriptors.specs.Descriptor.{enabled, range_match, space_match, matches, compared, match_answer, is_yes, space_alone}
use Rattle.descriptors.specs.declared.descriptor.Descriptor.{Descriptor}
use Rattle.descriptors.specs.declared.descriptor.Match.TheVariants.{Disabled}

yes_by : (e r s : Bool) → is_yes (cond e (compared r s) Disabled) ≡ (e && r && s)
yes_by true true true = refl
yes_by true true false = refl
yes_by true false true = refl
yes_by true false false = refl
yes_by false r s = refl

space_alone_by : (e r s : Bool) → space_alone (cond e (compared r s) Disabled) ≡ (e && r && not s)
space_alone_by true true true = refl
space_alone_by true true false = refl
space_alone_by true false true = refl
space_alone_by true false false = refl
space_alone_by false r s = refl

all_three : (e r s : Bool) → ((e && r && not s) ≡ true) ↔ ((e ≡ true) × (r ≡ true) × (s ≡ false))
all_three true true false = (λ q. (refl, refl, refl), λ q. refl)
all_three true true true = (λ q. absurd (false≢true q), λ q. sym q.2)
all_three true false s = (λ q. absurd (false≢true q), λ q. q.1)
all_three false r s = (λ q. absurd (false≢true q), λ q. q.0)

module _ (d : Descriptor) (page number : ℕ) where
  pub yes_matches : is_yes (match_answer d page number) ≡ matches d page number
  unfolding match_answer matches
  yes_matches = yes_by (enabled d) (range_match d page) (space_match d number)

  pub space_alone_is : space_alone (match_answer d page number) ≡ (enabled d && range_match d page && not (space_match d number))
  unfolding match_answer
  space_alone_is = space_alone_by (enabled d) (range_match d page) (space_match d number)

  pub space_alone_law : (space_alone (match_answer d page number) ≡ true)
      ↔ ((enabled d ≡ true) × (range_match d page ≡ true) × (space_match d number ≡ false))
  space_alone_law = rw space_alone_is (all_three (enabled d) (range_match d page) (space_match d number))
