-- What `any` and `position` find among n elements of a list, the first of them at `from`, is what `first` finds by place.
--     any_first            whether one passes
--     position_first       where the first that passes stands among them
--     number_same, blame_same     a place has the number that it has in its unit
-- Assumes nothing.
use Rattle.std.proofs.Common.{ℕ, zero, suc, ◌+◌, ◌-◌, ◌*◌, ◌%◌, ◌<◌, ◌≤◌, ◌≡◌, refl, sym, ap, ◌∙◌, Bool, true, false, ◌||◌, cond, List, length, get_or, take, drop, Option, Some, None, arith, length-drop, get_or-take, get_or-drop}
use Rattle.std.proofs.lemmas.List.{drop_more}
use Rattle.std.proofs.lemmas.List.Sums.{fails_before_first, passes_at_first}
use Rattle.std.specs.Option.{is_some, option_map}
use Rattle.std.specs.List.{list_any, position, position_or_len}
use lib.Dec.{ltb}
use lib.Seq.{length-take-le}
use borrow.Author.Tests.{ltb-true, ltb-false}
use Rattle.registers.specs.Unit.{LD, report}
use Rattle.registers.specs.declared.unit.Unit.{Unit}
use Rattle.chip.specs.Search.{first, number_of}
use Rattle.chip.specs.Load.{blame}
use Rattle.chip.proofs.First.{first_at, first_nowhere}

module _ {A : Type 0} (p : A → Bool) (d : A) (xs : List A) where
  pub any_first : (from n : ℕ) → from + n ≤ length xs → list_any p (take n (drop from xs)) ≡ is_some (first (λ i. p (get_or xs i d)) from n)
  unfolding first
  any_first from zero h = refl
  any_first from (suc n) h = rw (drop_more xs from d (omega arith)) (go (p (get_or xs from d)) _ (rw (let e : from + 1 ≡ suc from = omega arith in e) (any_first (suc from) n (omega arith))))
    where
      go : (b : Bool) {x : Bool} (o : Option ℕ) → x ≡ is_some o → (b || x) ≡ is_some (cond b (Some from) o)
      go true o e = refl
      go false o e = e

  pub position_first : (from n : ℕ) → from + n ≤ length xs
      → option_map (λ k. from + k) (position p (take n (drop from xs))) ≡ first (λ i. p (get_or xs i d)) from n
  position_first from n h = go (ltb (position_or_len p part) (length part)) refl
    where
      part : List A
      part = take n (drop from xs)

      size : length part ≡ n
      size = length-take-le n (drop from xs) (rw length-drop (omega arith))

      there : (i : ℕ) → from ≤ i → i < from + n → get_or part (i - from) d ≡ get_or xs i d
      there i a b = get_or-take n (drop from xs) (i - from) d (omega arith) ∙ get_or-drop from xs (i - from) d ∙ ap (λ (k : ℕ). get_or xs k d) (let e : from + (i - from) ≡ i = omega arith in e)

      go : (b : Bool) → ltb (position_or_len p part) (length part) ≡ b
          → option_map (λ k. from + k) (cond b (Some (position_or_len p part)) None) ≡ first (λ i. p (get_or xs i d)) from n
      go true e =
          let high = ltb-true _ _ e in
          let at = position_or_len p part in
          sym (first_at (λ i. p (get_or xs i d)) from n (from + at) (omega arith) (omega (arith, high, size))
          (λ k a b. ap p (sym (there k a (omega (arith, high, size)))) ∙ fails_before_first p part (k - from) d (omega arith))
          (ap p (sym (there (from + at) (omega arith) (omega (arith, high, size)))) ∙ rw (let e : from + at - from ≡ at = omega arith in e) (passes_at_first p part d high)))
      go false e =
          let past = ltb-false _ _ e in
          sym (first_nowhere (λ i. p (get_or xs i d)) from n
          (λ k a b. ap p (sym (there k a b)) ∙ fails_before_first p part (k - from) d (omega (arith, past, size))))

-- the number of a descriptor is the same in its unit and among all
pub number_same : (m : ℕ) (o : Option ℕ) → number_of o ≡ number_of (option_map (λ k. 32 * m + k) o)
number_same m (Some k) = omega arith
number_same m None = refl

pub blame_same : (m : ℕ) (o : Option ℕ) (u : Unit) → blame o u ≡ blame (option_map (λ k. 32 * m + k) o) u
blame_same m (Some k) u = let e : k % 32 ≡ (32 * m + k) % 32 = omega arith in ap (λ (n : ℕ). report LD n u) e
blame_same m None u = refl
