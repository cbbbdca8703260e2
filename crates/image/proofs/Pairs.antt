-- Each element of a list with each of those before it, row by row.
--     row_off, row_on     the row of an element of which it is not asked, and of one of which it is
--     broken              where a row does not hold
--     of_first            the rows of the first n
-- Assumes nothing.
use Rattle.std.proofs.Common.{◌≡◌, ℕ, ◌<◌, ◌≤◌, Bool, true, false, not, ◌||◌, List, length, get_or, take, length-take, sym, refl, ◌∙◌, arith}
use Rattle.std.specs.List.{list_all}
use Rattle.std.proofs.lemmas.List.{get_or-take}
use Rattle.masks.specs.Fields.{every}
use Rattle.masks.proofs.Bits.{every_at}
use Rattle.image.specs.Pairs.{each_with_those_before}
use Rattle.image.proofs.Listed.{all_is, every_alike}

module _ {T : Type 0} (d : T) (a : T → Bool) (p : T → T → Bool) (l : List T) where
  abbrev pub row : ℕ → Bool
  row i = every i (λ k. not (a (get_or l i d)) || p (get_or l i d) (get_or l k d))

  pub row_off : (i : ℕ) → a (get_or l i d) ≡ false → row i ≡ true
  row_off i e = (every_at i _).1 (λ k h. rw e refl)

  pub row_on : (i : ℕ) → i < length l → a (get_or l i d) ≡ true → row i ≡ list_all (p (get_or l i d)) (take i l)
  row_on i h e =
      let size : length (take i l) ≡ i = simp length-take (omega arith) in
      sym (all_is d (p (get_or l i d)) (take i l) i _ size (λ k q. rw (get_or-take i l k d q, e) refl))

pub broken : (n i : ℕ) (p : ℕ → Bool) → i < n → p i ≡ false → every n p ≡ false
broken n i p h e = go (every n p) refl
  where
    go : (b : Bool) → every n p ≡ b → b ≡ false
    go true q = sym ((every_at n p).0 q i h) ∙ e
    go false q = refl

pub of_first : {T : Type 0} (d : T) (a : T → Bool) (p : T → T → Bool) (n : ℕ) (l : List T) (q : ℕ → ℕ → Bool) → n ≤ length l
    → ((i k : ℕ) → not (a (get_or l i d)) || p (get_or l i d) (get_or l k d) ≡ q i k)
    → each_with_those_before d a p (take n l) ≡ every n (λ i. every i (q i))
of_first d a p n l q h e =
    let size : length (take n l) ≡ n = simp length-take (omega arith) in
    rw size
    (every_alike n (row d a p (take n l)) (λ i. every i (q i))
    (λ i m. every_alike i _ (q i) (λ k j. rw (get_or-take n l i d m, get_or-take n l k d (omega arith)) (e i k))))
