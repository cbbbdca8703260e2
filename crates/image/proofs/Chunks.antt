-- A list that is cut into chunks, as `chunks_exact` gives them.
--     length_chunks, chunk_at, chunks_more       how many there are, where each stands, and one more
--     chunks_yield      what the iterator gives
-- Assumes nothing.
use Rattle.std.proofs.Common.{◌≡◌, ℕ, zero, suc, ◌+◌, ◌*◌, ◌/◌, ◌<◌, List, [], ◌∷◌, ◌++◌, length, get_or, take, drop, refl, ◌∙◌, ap, arith, length-append, drop-drop, take_at, drop_at, add-one}
use Rattle.std.proofs.Math.Nat.{add-div_left, div-eq_of_lt}
use Rattle.std.specs.Simd.{first_chunks}
use Rattle.std.specs.Slice.Iter.{chunks_exact_size, chunks_exact_rest, chunks_exact_steps}
use Rattle.std.proofs.lemmas.Iterator.{YieldsList}
use Rattle.std.proofs.lemmas.Iterator.Splits.{YieldsList-from_shown_while}

module _ {A : Type 0} (w : ℕ) where
  pub length_chunks : (n : ℕ) (xs : List A) → length (first_chunks w n xs) ≡ n
  length_chunks zero xs = refl
  length_chunks (suc n) xs = ap suc (length_chunks n (drop w xs))

  pub chunk_at : (n m : ℕ) (xs : List A) → m < n → get_or (first_chunks w n xs) m [] ≡ take w (drop (w * m) xs)
  chunk_at zero m xs l = absurd (omega arith)
  chunk_at (suc n) zero xs l = let none : w * 0 ≡ 0 = omega arith in rw none refl
  chunk_at (suc n) (suc m) xs l =
      let place : w + w * m ≡ w * suc m = omega arith in
      chunk_at n m (drop w xs) (omega arith) ∙ rw (drop-drop (w * m) w xs, place) refl

  pub chunks_more : (n : ℕ) (xs : List A) → first_chunks w (suc n) xs ≡ first_chunks w n xs ++ take w (drop (w * n) xs) ∷ []
  chunks_more zero xs = let none : w * 0 ≡ 0 = omega arith in rw none refl
  chunks_more (suc n) xs =
      let place : w + w * n ≡ w * suc n = omega arith in
      ap (λ (l : List (List A)). take w xs ∷ l) (chunks_more n (drop w xs) ∙ rw (drop-drop (w * n) w xs, place) refl)

module _ {A : Type 0} (w : ℕ) (some : 0 < w) where
  none_left : (rest : List A) → length rest < w → length (first_chunks w (length rest / w) rest) ≡ 0
  none_left rest l = length_chunks w (length rest / w) rest ∙ div-eq_of_lt l

  one_off : (rest more x : List A) → rest ≡ x ++ more → length x ≡ w → first_chunks w (length rest / w) rest ≡ x ∷ first_chunks w (length more / w) more
  one_off rest more x e h =
      let size : length rest ≡ w + length more = ap length e ∙ length-append x more ∙ rw h refl in
      let turns : length rest / w ≡ suc (length more / w) = rw (size, add-div_left (length more) some, add-one) refl in
      rw (turns, e, take_at x more w h, drop_at x more w h) refl

  pub chunks_yield : {s : _} (xs : List A) → chunks_exact_rest s ≡ xs → chunks_exact_size s ≡ w
      → YieldsList (chunks_exact_steps {A = A}) (λ x. x.now) s (first_chunks w (length xs / w) xs)
  chunks_yield {s} xs e p =
      rw (← e)
      (YieldsList-from_shown_while (chunks_exact_steps {A = A}) (λ x. x.now)
      (λ s. first_chunks w (length (chunks_exact_rest s) / w) (chunks_exact_rest s))
      (λ s. chunks_exact_size s ≡ w)
      (λ s t q h. none_left (chunks_exact_rest s) (rw q at h.1.0))
      (λ s x t q h. (h.0 ∙ q, one_off (chunks_exact_rest s) (chunks_exact_rest t) x.now h.1.0 (h.1.1 ∙ q)))
      s p)
