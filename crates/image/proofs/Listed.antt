-- A test of each element of a list, as `every` has it.
--     all_is              `all`
--     same_is             two lists that are compared
--     every_alike         tests that are alike
-- Assumes nothing.
use Rattle.std.proofs.Common.{◌≡◌, ℕ, zero, suc, ◌<◌, Bool, true, false, ◌&&◌, List, [], ◌∷◌, length, get_or, sym, refl, ◌∙◌, ap, ap₂, arith}
use Rattle.std.specs.List.{list_all}
use Rattle.std.specs.Cmp.Lexicographic.{pointwise}
use Rattle.masks.specs.Fields.{every}

exchanged : (a b c : Bool) → a && (b && c) ≡ b && (a && c)
exchanged true true c = refl
exchanged true false c = refl
exchanged false true c = refl
exchanged false false c = refl

-- the first position before the others
every_front : (n : ℕ) (p : ℕ → Bool) → every (suc n) p ≡ p 0 && every n (λ k. p (suc k))
unfolding every
every_front zero p = refl
every_front (suc n) p =
    ap (λ b. p (suc n) && b) (every_front n p) ∙ exchanged (p (suc n)) (p 0) (every n (λ k. p (suc k)))

module _ {A : Type 0} (d : A) (test : A → Bool) where
  all_at : (xs : List A) (p : ℕ → Bool) → ((k : ℕ) → k < length xs → test (get_or xs k d) ≡ p k) → list_all test xs ≡ every (length xs) p
  unfolding every
  all_at [] p h = refl
  all_at (x ∷ xs) p h =
      ap₂ (λ a b. a && b) (h 0 (omega arith)) (all_at xs (λ k. p (suc k)) (λ k l. h (suc k) (omega arith)))
      ∙ sym (every_front (length xs) p)

  pub all_is : (xs : List A) (n : ℕ) (p : ℕ → Bool) → length xs ≡ n → ((k : ℕ) → k < n → test (get_or xs k d) ≡ p k) → list_all test xs ≡ every n p
  all_is xs n p e h = all_at xs p (λ k l. h k (omega arith)) ∙ ap (λ m. every m p) e

pub same_is : {A : Type 0} (d : A) (test : A → A → Bool) (xs ys : List A) (n : ℕ) (p : ℕ → Bool) → length xs ≡ n → length ys ≡ n
    → ((k : ℕ) → k < n → test (get_or xs k d) (get_or ys k d) ≡ p k) → pointwise test xs ys ≡ every n p
unfolding every
same_is d test [] [] n p e f h = ap (λ m. every m p) e
same_is d test [] (y ∷ ys) n p e f h = absurd (omega arith)
same_is d test (x ∷ xs) [] n p e f h = absurd (omega arith)
same_is d test (x ∷ xs) (y ∷ ys) n p e f h =
    let first : test x y ≡ p 0 = h 0 (omega arith) in
    let others = same_is d test xs ys (length xs) (λ k. p (suc k)) refl (omega arith) (λ k l. h (suc k) (omega arith)) in
    ap₂ (λ a b. a && b) first others ∙ sym (every_front (length xs) p) ∙ ap (λ m. every m p) e

pub every_alike : (n : ℕ) (p q : ℕ → Bool) → ((k : ℕ) → k < n → p k ≡ q k) → every n p ≡ every n q
unfolding every
every_alike zero p q h = refl
every_alike (suc n) p q h = ap₂ (λ a b. a && b) (h n (omega arith)) (every_alike n p q (λ k l. h k (omega arith)))
