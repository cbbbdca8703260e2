-- A store into a list, a list of one thing, and a list by its elements.
--     stored         what holds of each element holds after a store of something of which it holds
--     everywhere     a list of one thing has it everywhere, if it is what stands past the end too
--     listed_as, taken_listed, at_listed, length_listed, listed_alike, listed_by      a list, or its first n, is that of its elements; what stands in it
-- Assumes nothing.
use Prim.Native.Nat.{ℕ, zero, suc, ◌<◌, ◌≤◌}
use mathlib.Core.Path.{◌≡◌, refl, sym, ap, ap₂, subst, ◌∙◌}
use mathlib.Core.List.{List, [], ◌∷◌}
use native.Mathlib.Nat.{le_of_suc-le-suc, not-suc-le-zero}
use native.Mathlib.Omega.{arith}
use lib.ListN.{length, take, get_or, set, replicate}
use Rattle.pieces.specs.Pieces.{list_of}

pub stored : {A : Type 0} (P : ℕ → A → Type 0) (d : A) (l : List A) (i : ℕ) (x : A) → P i x → ((k : ℕ) → P k (get_or l k d))
    → (k : ℕ) → P k (get_or (set l i x) k d)
stored P d [] i x q h k = h k
stored P d (y ∷ l) zero x q h zero = q
stored P d (y ∷ l) zero x q h (suc k) = h (suc k)
stored P d (y ∷ l) (suc i) x q h zero = h 0
stored P d (y ∷ l) (suc i) x q h (suc k) = stored (λ k. P (suc k)) d l i x q (λ k. h (suc k)) k

pub everywhere : {A : Type 0} (n k : ℕ) (x : A) → get_or (replicate n x) k x ≡ x
everywhere zero k x = refl
everywhere (suc n) zero x = refl
everywhere (suc n) (suc k) x = everywhere n k x

module _ {A : Type 0} (d : A) where
  pub taken_listed : (n : ℕ) (l : List A) → n ≤ length l → take n l ≡ list_of n (λ i. get_or l i d)
  taken_listed zero l h = refl
  taken_listed (suc n) [] h = absurd (not-suc-le-zero h)
  taken_listed (suc n) (x ∷ l) h = ap (λ (r : List A). x ∷ r) (taken_listed n l (le_of_suc-le-suc h))

  listed : (l : List A) → list_of (length l) (λ i. get_or l i d) ≡ l
  listed [] = refl
  listed (x ∷ l) = ap (λ (r : List A). x ∷ r) (listed l)

  pub listed_as : (n : ℕ) (l : List A) → length l ≡ n → list_of n (λ i. get_or l i d) ≡ l
  listed_as n l e = subst (λ (n : ℕ). list_of n (λ i. get_or l i d) ≡ l) e (listed l)

  pub at_listed : (n : ℕ) (f : ℕ → A) (i : ℕ) → i < n → get_or (list_of n f) i d ≡ f i
  at_listed zero f i h = absurd (not-suc-le-zero h)
  at_listed (suc n) f zero h = refl
  at_listed (suc n) f (suc i) h = at_listed n (λ k. f (suc k)) i (le_of_suc-le-suc h)

pub length_listed : {A : Type 0} (n : ℕ) (f : ℕ → A) → length (list_of n f) ≡ n
length_listed zero f = refl
length_listed (suc n) f = ap suc (length_listed n (λ i. f (suc i)))

pub listed_alike : {A : Type 0} (n : ℕ) (f g : ℕ → A) → ((i : ℕ) → i < n → f i ≡ g i) → list_of n f ≡ list_of n g
listed_alike zero f g h = refl
listed_alike (suc n) f g h =
    ap₂ (λ x (r : List _). x ∷ r) (h 0 (omega arith)) (listed_alike n (λ i. f (suc i)) (λ i. g (suc i)) (λ i k. h (suc i) (omega arith)))

pub listed_by : {A : Type 0} (d : A) (n : ℕ) (l : List A) (f : ℕ → A) → length l ≡ n → ((i : ℕ) → i < n → get_or l i d ≡ f i) → l ≡ list_of n f
listed_by d n l f e h = sym (listed_as d n l e) ∙ listed_alike n (λ i. get_or l i d) f h
