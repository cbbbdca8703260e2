-- Laws of `first`: it finds the first place of which p holds, or there is none.
--     first_at, first_nowhere      what a search that goes from place to place has shown
--     first_found, first_missed    what its result tells
--     found_of, at_some, nowhere   whether something is found
--     first_more                   and among one place more
-- Assumes nothing.
use Rattle.std.specs.Option.{option_or}
use Rattle.std.specs.Prelude.{Option, Some, None, is_some}
use Prim.Native.Nat.{ℕ, zero, suc, ◌+◌, ◌<◌, ◌≤◌}
use mathlib.Core.Path.{◌≡◌, refl, sym, ap, ◌∙◌}
use mathlib.Core.Logic.{⊎_elim}
use mathlib.Core.Bool.{Bool, true, false, cond, false≢true, true≢false}
use native.Mathlib.Nat.{eq-or-lt_of_le}
use native.Mathlib.Omega.{arith}
use Rattle.chip.specs.Search.{first}

module _ (p : ℕ → Bool) where
  pub first_at : (from n i : ℕ) → from ≤ i → i < from + n → ((k : ℕ) → from ≤ k → k < i → p k ≡ false) → p i ≡ true → first p from n ≡ Some i
  unfolding first
  first_at from zero i l h none here = absurd (omega arith)
  first_at from (suc n) i l h none here =
      ⊎_elim (λ e. let q : p from ≡ true = rw e here in rw q (ap Some e))
      (λ g.
      let q : p from ≡ false = none from (omega arith) g in
      rw q (first_at (suc from) n i g (omega arith) (λ k a b. none k (omega arith) b) here))
      (eq-or-lt_of_le l)

  pub first_nowhere : (from n : ℕ) → ((k : ℕ) → from ≤ k → k < from + n → p k ≡ false) → first p from n ≡ None
  unfolding first
  first_nowhere from zero none = refl
  first_nowhere from (suc n) none =
      let q : p from ≡ false = none from (omega arith) (omega arith) in
      rw q (first_nowhere (suc from) n (λ k a b. none k (omega arith) (omega arith)))

  -- i is the first place of which p holds, at or after `from` and before `end`
  pub record First (from end i : ℕ) : Type 0 where
    pub low : from ≤ i
    pub high : i < end
    pub here : p i ≡ true
    pub before : (k : ℕ) → from ≤ k → k < i → p k ≡ false

  pub first_found : (from n i : ℕ) → first p from n ≡ Some i → First from (from + n) i
  unfolding first
  first_found from zero i e = absurd (let z : ◌≡◌ {A = ℕ} 0 1 = cc in omega arith)
  first_found from (suc n) i e = go (p from) refl (first_found (suc from) n i) e
    where
      go : (b : Bool) → p from ≡ b → (first p (suc from) n ≡ Some i → First (suc from) (suc from + n) i)
          → cond b (Some from) (first p (suc from) n) ≡ Some i → First from (from + suc n) i
      go true q later r =
          let j : from ≡ i = cc in
          record { low = omega arith; high = omega arith; here = rw j at q; before = λ k a b. absurd (omega arith) }
      go false q later r =
          let f = later r in
          record {
            low = omega (arith, f.low);
            high = omega (arith, f.high);
            here = f.here;
            before = λ k a b. ⊎_elim (λ g. rw g at q) (λ g. f.before k g b) (eq-or-lt_of_le a);
          }

  pub first_missed : (from n : ℕ) → first p from n ≡ None → (k : ℕ) → from ≤ k → k < from + n → p k ≡ false
  unfolding first
  first_missed from zero e k a b = absurd (omega arith)
  first_missed from (suc n) e k a b = go (p from) refl (λ r g. first_missed (suc from) n r k g (omega arith)) e
    where
      go : (b : Bool) → p from ≡ b → (first p (suc from) n ≡ None → from < k → p k ≡ false)
          → cond b (Some from) (first p (suc from) n) ≡ None → p k ≡ false
      go true q later r = absurd (let z : ◌≡◌ {A = ℕ} 0 1 = cc in omega arith)
      go false q later r = ⊎_elim (λ g. rw g at q) (λ g. later r g) (eq-or-lt_of_le a)

-- where it is so of some place, something is found; what was found, and nothing, by name
pub found_of : (p : ℕ → Bool) (n k : ℕ) → k < n → p k ≡ true → is_some (first p 0 n) ≡ true
found_of p n k h e = go (first p 0 n) refl
  where
    go : (f : Option ℕ) → first p 0 n ≡ f → is_some f ≡ true
    go (Some i) q = refl
    go None q = absurd (false≢true (sym (first_missed p 0 n q k (omega arith) (omega arith)) ∙ e))

pub at_some : (f : Option ℕ) → is_some f ≡ true → (i : ℕ) × (f ≡ Some i)
at_some (Some i) e = (i, refl)
at_some None e = absurd (false≢true e)

pub nowhere : (f : Option ℕ) → is_some f ≡ false → f ≡ None
nowhere (Some i) e = absurd (true≢false e)
nowhere None e = refl

-- what held of each place before i, and of i, holds of each before the next
pub one_more : {P : ℕ → Type 0} (from i : ℕ) → ((k : ℕ) → from ≤ k → k < i → P k) → P i → (k : ℕ) → from ≤ k → k < i + 1 → P k
one_more {P} from i h here k a b = ⊎_elim (λ e. rw e here) (λ l. h k a l) (eq-or-lt_of_le (let l : k ≤ i = omega arith in l))

pub first_more : (p : ℕ → Bool) (n : ℕ) → first p 0 (n + 1) ≡ cond (p n) (option_or (first p 0 n) (Some n)) (first p 0 n)
first_more p n = go (first p 0 n) refl
  where
    either_way : (b : Bool) (f : Option ℕ) → f ≡ cond b f f
    either_way true f = refl
    either_way false f = refl

    next : (b : Bool) → p n ≡ b → ((k : ℕ) → 0 ≤ k → k < n → p k ≡ false) → first p 0 (n + 1) ≡ cond b (Some n) None
    next true q none = first_at p 0 (n + 1) n (omega arith) (omega arith) none q
    next false q none = first_nowhere p 0 (n + 1) (λ k a b. one_more 0 n none q k a (omega arith))

    go : (f : Option ℕ) → first p 0 n ≡ f → first p 0 (n + 1) ≡ cond (p n) (option_or f (Some n)) f
    go (Some i) e =
        let f = first_found p 0 n i e in
        first_at p 0 (n + 1) i (omega arith) (omega (arith, f.high)) f.before f.here ∙ either_way (p n) (Some i)
    go None e = next (p n) refl (λ k a b. first_missed p 0 n e k a (omega arith))
