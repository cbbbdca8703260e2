-- An array that `array::from_fn` makes, of which the first n elements are read and the others are as in another.
--     made_of     each element
--     made_is     all of them, as `each` has them
-- Assumes nothing.
use Rattle.std.proofs.Common.{◌≡◌, ℕ, zero, suc, ◌+◌, ◌<◌, Bool, true, false, cond, ltb, List, length, get_or, refl, ◌∙◌, sym, arith, ltb-true, ltb-false}
use Rattle.std.specs.Array.{IsFromFnResult, IsFromFnResultFrom}
use Rattle.std.specs.Fn.{Called}
use denote.Param.Members.{Mut}
use lib.Seq.{ext_get_or}
use Rattle.chip.specs.System.{each}
use Rattle.chip.proofs.Each.{each_at, each_past, length_each}

module _ {F A : Type 0} (g : Mut F (ℕ × Unit {0}) A) (f : F) (h : ℕ → A) (step : (i : ℕ) (y : A) (q : F) → Called g f (i, tt) y q → (q ≡ f) × (y ≡ h i)) where
  from : (ys : List A) (d : A) (i n : ℕ) (p : F) → p ≡ f → IsFromFnResultFrom g p ys i n → (k : ℕ) → k < n → get_or ys (i + k) d ≡ h (i + k)
  from ys d i zero p e r k l = absurd (omega arith)
  from ys d i (suc n) p e r zero l =
      let none : i + 0 ≡ i = omega arith in
      let made = (step i r.1 r.0 (rw e at r.3)).1 in
      rw none (r.2.1 d ∙ made)
  from ys d i (suc n) p e r (suc k) l =
      let more : i + suc k ≡ i + 1 + k = omega arith in
      let still = (step i r.1 r.0 (rw e at r.3)).0 in
      rw more (from ys d (i + 1) n r.0 still r.4 k (omega arith))

  -- where each call gives h of its number, and leaves the closure as it was
  pub made_of : (ys : List A) (d : A) (n : ℕ) → IsFromFnResult g f ys n → (i : ℕ) → i < n → get_or ys i d ≡ h i
  made_of ys d n r i l =
      let none : 0 + i ≡ i = omega arith in
      rw none at (from ys d 0 n f refl r.each i l)

pub made_is : {A : Type 0} (d : A) (n : ℕ) (f : ℕ → A) (ys zs : List A) → length ys ≡ length zs
    → ((i : ℕ) → i < length zs → get_or ys i d ≡ cond (ltb i n) (f i) (get_or zs i d)) → ys ≡ each n (λ i x. f i) zs
made_is {A} d n f ys zs e h =
    ext_get_or d ys (each n (λ i x. f i) zs) (e ∙ sym (length_each n (λ i x. f i) zs)) (λ i l. at i (rw e at l) (ltb i n) refl)
  where
    at : (i : ℕ) → i < length zs → (t : Bool) → ltb i n ≡ t → get_or ys i d ≡ get_or (each n (λ i x. f i) zs) i d
    at i l true q = h i l ∙ rw q (sym (each_at d n (λ i x. f i) zs i (ltb-true i n q) l))
    at i l false q = h i l ∙ rw q (sym (each_past d n (λ i x. f i) zs i (ltb-false i n q)))
