-- Laws of `each`: a loop that replaces one element after the other makes it, or fills an array from the front.
--     each_more, each_at, each_past, each_front, length_each, each_related     what is done to each of the first n
--     filled_is, filled_below, filled_past, length_filled     an array whose first n elements are put in
--     front_next, front_ended     a loop over the first n
--     begun, next, ended      a loop that fills an array
-- Assumes nothing.
use Prim.Native.Nat.{ℕ, zero, suc, ◌+◌, ◌<◌, ◌≤◌}
use mathlib.Core.Path.{◌≡◌, refl, sym, ap, ◌∙◌}
use mathlib.Core.Bool.{Bool, true, false}
use mathlib.Core.List.{List, [], ◌∷◌, ◌++◌}
use native.Mathlib.Nat.{le_of_suc-le-suc, not-suc-le-zero}
use native.Mathlib.Numerals.{add-one}
use native.Mathlib.Omega.{arith}
use lib.Dec.{ltb}
use lib.ListN.{length, get_or, set, take, drop, replicate, length-replicate, get_or-replicate}
use lib.Seq.{ext_get_or, length-take-le}
use borrow.Author.Tests.{ltb-true, ltb-false}
use Rattle.chip.specs.System.{each}

module _ {A : Type 0} (d : A) where
  more : (n : ℕ) (f : ℕ → A → A) (xs : List A) → set (each n f xs) n (f n (get_or (each n f xs) n d)) ≡ each (suc n) f xs
  unfolding each
  more zero f [] = refl
  more zero f (x ∷ xs) = refl
  more (suc n) f [] = refl
  more (suc n) f (x ∷ xs) = ap (λ (ys : List A). f 0 x ∷ ys) (more n (λ i. f (suc i)) xs)

  pub each_more : (n : ℕ) (f : ℕ → A → A) (xs : List A) → set (each n f xs) n (f n (get_or (each n f xs) n d)) ≡ each (n + 1) f xs
  each_more n f xs = rw add-one (more n f xs)

  -- what stands at a place that `each` has come to, and at one that it has not
  pub each_at : (n : ℕ) (f : ℕ → A → A) (xs : List A) (i : ℕ) → i < n → i < length xs → get_or (each n f xs) i d ≡ f i (get_or xs i d)
  unfolding each
  each_at zero f xs i l h = absurd (not-suc-le-zero l)
  each_at (suc n) f [] i l h = absurd (not-suc-le-zero h)
  each_at (suc n) f (x ∷ xs) zero l h = refl
  each_at (suc n) f (x ∷ xs) (suc i) l h = each_at n (λ k. f (suc k)) xs i (le_of_suc-le-suc l) (le_of_suc-le-suc h)

  pub each_past : (n : ℕ) (f : ℕ → A → A) (xs : List A) (i : ℕ) → n ≤ i → get_or (each n f xs) i d ≡ get_or xs i d
  unfolding each
  each_past zero f xs i l = refl
  each_past (suc n) f [] i l = refl
  each_past (suc n) f (x ∷ xs) zero l = absurd (not-suc-le-zero l)
  each_past (suc n) f (x ∷ xs) (suc i) l = each_past n (λ k. f (suc k)) xs i (le_of_suc-le-suc l)

-- a loop over the first n elements leaves the others
pub each_front : {A : Type 0} (n : ℕ) (f : ℕ → A → A) (xs : List A) → each n f (take n xs) ++ drop n xs ≡ each n f xs
unfolding each
each_front zero f xs = refl
each_front (suc n) f [] = refl
each_front {A = A} (suc n) f (x ∷ xs) = ap (λ (ys : List A). f 0 x ∷ ys) (each_front n (λ i. f (suc i)) xs)

pub length_each : {A : Type 0} (n : ℕ) (f : ℕ → A → A) (xs : List A) → length (each n f xs) ≡ length xs
unfolding each
length_each zero f xs = refl
length_each (suc n) f [] = refl
length_each (suc n) f (x ∷ xs) = ap suc (length_each n (λ i. f (suc i)) xs)

-- how each of the first n stands to what f makes of it; past the list's end there is nothing
pub each_related : {A : Type 0} (R : A → A → Type 0) (d : A) (n : ℕ) (f : ℕ → A → A) (xs : List A) → R d d
    → ((k : ℕ) (x : A) → R x (f k x)) → (k : ℕ) → k < n → R (get_or xs k d) (get_or (each n f xs) k d)
unfolding each
each_related R d zero f xs q h k l = absurd (not-suc-le-zero l)
each_related R d (suc n) f [] q h k l = q
each_related R d (suc n) f (x ∷ xs) q h zero l = h 0 x
each_related R d (suc n) f (x ∷ xs) q h (suc k) l =
    each_related R d n (λ i. f (suc i)) xs q (λ i. h (suc i)) k (le_of_suc-le-suc l)

-- ---- a loop over the first n elements of an array: those before i are done

module _ {A : Type 0} (d : A) (n : ℕ) (f : ℕ → A → A) (xs : List A) where
  pub front_next : (i : ℕ) (items : List A) (v : A) → items ≡ each i f (take n xs) → v ≡ f i (get_or items i d)
      → set items i v ≡ each (i + 1) f (take n xs)
  front_next i items v e q = rw (q, e) (each_more d i f (take n xs))

  pub front_ended : (i : ℕ) (items : List A) → n ≤ length xs → items ≡ each i f (take n xs) → i ≤ length (take n xs)
      → length (take n xs) ≤ i → items ++ drop n xs ≡ each n f xs
  front_ended i items h e few all =
      let last : i ≡ n = omega (arith, length-take-le n xs h) in
      rw (e, last) (each_front n f xs)

-- ---- an array that is filled, one element after the other

module _ {A : Type 0} where
  -- so far i of n are put in
  abbrev pub Filling : (n : ℕ) (g : ℕ → A) (xs ys : List A) (i : ℕ) → Type 0
  Filling n g xs ys i = (i ≤ n) × (ys ≡ each i (λ k x. g k) xs)

  pub begun : {n : ℕ} (g : ℕ → A) (xs : List A) → Filling n g xs xs 0
  unfolding each
  begun g xs = (omega arith, refl)

  pub next : (d : A) (g : ℕ → A) (xs : List A) {n i : ℕ} {ys : List A} {v : A} → Filling n g xs ys i → i < n → v ≡ g i
      → Filling n g xs (set ys i v) (i + 1)
  next d g xs {i = i} f l q = (omega arith, rw (f.1, q) (each_more d i (λ k x. g k) xs))

  pub ended : (g : ℕ → A) (xs zs : List A) {n i : ℕ} {ys : List A} → Filling n g xs ys i → n ≤ i → xs ≡ zs
      → ys ≡ each n (λ k x. g k) zs
  ended g xs zs {n = n} {i = i} f l e = let all : i ≡ n = omega arith in f.1 ∙ rw (all, e)

  -- an array whose first n elements come from g, and the others are z
  pub filled_is : (d : A) (n k : ℕ) (g : ℕ → A) (z : A) (l : List A) → length l ≡ k
      → ((i : ℕ) → i < n → i < k → g i ≡ get_or l i d) → ((i : ℕ) → n ≤ i → i < k → z ≡ get_or l i d)
      → each n (λ i x. g i) (replicate k z) ≡ l
  filled_is d n k g z l e below past =
      ext_get_or d (each n (λ i x. g i) (replicate k z)) l (size ∙ sym e) (λ i h. at i (rw size at h) (ltb i n) refl)
    where
      size : length (each n (λ i x. g i) (replicate k z)) ≡ k
      size = length_each n (λ i x. g i) (replicate k z) ∙ length-replicate k z

      at : (i : ℕ) → i < k → (t : Bool) → ltb i n ≡ t → get_or (each n (λ i x. g i) (replicate k z)) i d ≡ get_or l i d
      at i h true q =
          let b : i < n = ltb-true i n q in
          each_at d n (λ i x. g i) (replicate k z) i b (rw length-replicate h) ∙ below i b h
      at i h false q =
          let p : n ≤ i = ltb-false i n q in
          each_past d n (λ i x. g i) (replicate k z) i p ∙ get_or-replicate k i z d h ∙ past i p h

-- an array whose first n elements come from g, and the others are z: what stands in it
module _ {A : Type 0} (d : A) (n k : ℕ) (g : ℕ → A) (z : A) where
  pub filled_below : (i : ℕ) → i < n → i < k → get_or (each n (λ i x. g i) (replicate k z)) i d ≡ g i
  filled_below i l h = each_at d n (λ i x. g i) (replicate k z) i l (rw length-replicate h)

  pub filled_past : (i : ℕ) → n ≤ i → i < k → get_or (each n (λ i x. g i) (replicate k z)) i d ≡ z
  filled_past i l h = each_past d n (λ i x. g i) (replicate k z) i l ∙ get_or-replicate k i z d h

  pub length_filled : length (each n (λ i x. g i) (replicate k z)) ≡ k
  length_filled = length_each n (λ i x. g i) (replicate k z) ∙ length-replicate k z
