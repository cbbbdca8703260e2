-- A list that is cut into pieces of one size, and what stands in its parts.
--     cut_front, cut   the first w * n elements, cut into n pieces; and all
--     part_listed, zeros_taken      a part by its elements, and one of zeros
--     all_listed       what holds of each element that is listed
-- Assumes nothing.
use Rattle.std.proofs.Common.{◌≡◌, ℕ, zero, suc, ◌+◌, ◌*◌, ◌<◌, ◌≤◌, List, [], ◌∷◌, length, get_or, take, drop, replicate, length-take, length-drop, get_or-drop, sym, refl, ◌∙◌, ap₂, le_of_suc-le-suc, not-suc-le-zero, arith, take_all, take-add}
use Rattle.std.proofs.lemmas.List.{get_or-take}
use Rattle.pieces.specs.Pieces.{list_of, pieces}
use Rattle.pieces.proofs.Stores.{listed_by}

module _ {A : Type 0} where
  pub cut_front : (w n : ℕ) (l : List A) → pieces n (λ m. take w (drop (w * m) l)) ≡ take (w * n) l
  unfolding pieces
  cut_front w zero l = let none : w * 0 ≡ 0 = omega arith in rw none
  cut_front w (suc n) l =
      let more : w * suc n ≡ w * n + w = omega arith in
      rw (cut_front w n l, more, take-add (w * n) w l)

  pub cut : (w n : ℕ) (l : List A) → length l ≡ w * n → pieces n (λ m. take w (drop (w * m) l)) ≡ l
  cut w n l e = cut_front w n l ∙ take_all (w * n) l (omega arith)

  pub all_listed : (P : A → Type 0) (d : A) → P d → (n : ℕ) (f : ℕ → A) → ((i : ℕ) → P (f i)) → (i : ℕ) → P (get_or (list_of n f) i d)
  all_listed P d z zero f h i = z
  all_listed P d z (suc n) f h zero = h 0
  all_listed P d z (suc n) f h (suc i) = all_listed P d z n (λ k. f (suc k)) (λ k. h (suc k)) i

pub part_listed : (from n : ℕ) (l : List ℕ) → from + n ≤ length l → take n (drop from l) ≡ list_of n (λ i. get_or l (from + i) 0)
part_listed from n l h =
    listed_by 0 n (take n (drop from l)) (λ i. get_or l (from + i) 0) (simp (length-take, length-drop) (omega arith))
    (λ i k. rw (get_or-take n (drop from l) i 0 k, get_or-drop from l i 0) refl)

pub zeros_taken : (n : ℕ) (l : List ℕ) → n ≤ length l → ((i : ℕ) → i < n → get_or l i 0 ≡ 0) → replicate n 0 ≡ take n l
zeros_taken zero l h z = refl
zeros_taken (suc n) [] h z = absurd (not-suc-le-zero h)
zeros_taken (suc n) (x ∷ l) h z =
    ap₂ (λ y (r : List ℕ). y ∷ r) (sym (z 0 (omega arith))) (zeros_taken n l (le_of_suc-le-suc h) (λ i k. z (suc i) (omega arith)))
