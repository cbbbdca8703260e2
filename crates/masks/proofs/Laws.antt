-- The laws of fields under a mask, each stated and proved over the width w.
--     agree_at       agreement, said of each bit position
--     agree_bits     that no bit of the xor is left under the mask decides agreement
--     agree_test     and so does the test that the xor under the mask is zero
--     gate_fits      the value made from two fields by a mask fits the width
--     gate_masked    that value, computed by masks, is the one made bit by bit
--     clash_at       a clash, said of each bit position
--     clash_bits, clash_test    the same under what two masks have in common decides the clash
--     clash_value    where two fields clash, the value in hand that agrees with both
--     clash_of       where some value agrees with both, the two clash
--     clash_exists   so two fields clash exactly when some value of the width agrees with both
-- Assumes nothing.
use mathlib.Core.Path.{◌≡◌, refl, sym, ap, fun_ext, ◌∙◌}
use mathlib.Core.Logic.{◌↔◌}
use mathlib.Core.Bool.{Bool, true, false, not, ◌&&◌, ◌||◌, xor, cond, beq, and-eq-true_iff, true≢false, false≢true}
use Prim.Native.Nat.{ℕ, ◌-◌, ◌^◌, ◌<◌}
use native.Mathlib.Nat.{lt_of_le_of_lt}
use lib.Dec.{eqb}
use lib.Pow.{ones_sub-lt}
use lib.Bits.{bit_and, bit_or, bit_xor, and_le_r, or_lt}
use Rattle.masks.specs.Fields.{bit, every, alike, agree, clash, gate}
use Rattle.masks.proofs.Bits.{bit-and, bit-or, bit-xor, bit_not, bit_field, field_bits, field_cong, field_fits, zero_test, every_at}

-- ---- agreement

same_bit : (c x y : Bool) → (cond c (beq x y) true ≡ true) ↔ (c ≡ true → x ≡ y)
same_bit true true true = (λ e h. refl, λ h. refl)
same_bit true true false = (λ e h. absurd (false≢true e), λ h. absurd (true≢false (h refl)))
same_bit true false true = (λ e h. absurd (false≢true e), λ h. absurd (false≢true (h refl)))
same_bit true false false = (λ e h. refl, λ h. refl)
same_bit false x y = (λ e h. absurd (false≢true h), λ h. refl)

alike_at : (w : ℕ) (c : ℕ → Bool) (a b : ℕ) → (alike w c a b ≡ true) ↔ ((i : ℕ) → i < w → c i ≡ true → bit a i ≡ bit b i)
unfolding alike
alike_at w c a b =
    let all = every_at w (λ i. cond (c i) (beq (bit a i) (bit b i)) true) in (
      λ e i h. (same_bit (c i) (bit a i) (bit b i)).0 (all.0 e i h),
      λ f. all.1 (λ i h. (same_bit (c i) (bit a i) (bit b i)).1 (f i h)),
    )

pub agree_at : (w m a b : ℕ) → (agree w m a b ≡ true) ↔ ((i : ℕ) → i < w → bit m i ≡ true → bit a i ≡ bit b i)
unfolding agree
agree_at w m a b = alike_at w (bit m) a b

unmasked : (c e : Bool) → not (not e && c) ≡ cond c e true
unmasked true true = refl
unmasked true false = refl
unmasked false true = refl
unmasked false false = refl

pub agree_bits : (w m a b : ℕ) → every w (λ i. not (bit (bit_and (bit_xor a b) m) i)) ≡ agree w m a b
unfolding agree alike xor
agree_bits w m a b = ap (every w) (fun_ext λ i. simp (bit-and, bit-xor) (unmasked (bit m i) (beq (bit a i) (bit b i))))

pub agree_test : (w m a b : ℕ) → m < 2 ^ w → eqb (bit_and (bit_xor a b) m) 0 ≡ agree w m a b
agree_test w m a b h = zero_test w _ (lt_of_le_of_lt (and_le_r (bit_xor a b) m) h) ∙ agree_bits w m a b

-- ---- the gated value

pub gate_fits : (w m a b : ℕ) → gate w m a b < 2 ^ w
unfolding gate
gate_fits w m a b = field_fits w _

chosen : (c x y : Bool) → (x && not c) || (y && c) ≡ cond c y x
chosen true true true = refl
chosen true true false = refl
chosen true false true = refl
chosen true false false = refl
chosen false true true = refl
chosen false true false = refl
chosen false false true = refl
chosen false false false = refl

pub gate_masked : (w m a b : ℕ) → m < 2 ^ w → bit_or (bit_and a (2 ^ w - 1 - m)) (bit_and b m) ≡ gate w m a b
unfolding gate
gate_masked w m a b hm =
    sym (field_bits w _ (or_lt w _ _ (lt_of_le_of_lt (and_le_r a _) (ones_sub-lt w m)) (lt_of_le_of_lt (and_le_r b m) hm)))
    ∙ field_cong w _ _ (λ i h. simp (bit-or, bit-and, bit_not w m i hm h) (chosen (bit m i) (bit a i) (bit b i)))

-- ---- clash

pub clash_bits : (w m a n b : ℕ) → every w (λ i. not (bit (bit_and (bit_xor a b) (bit_and m n)) i)) ≡ clash w m a n b
unfolding agree clash
clash_bits w m a n b = agree_bits w (bit_and m n) a b ∙ ap (λ (c : ℕ → Bool). alike w c a b) (fun_ext (bit-and m n))

pub clash_test : (w m a n b : ℕ) → n < 2 ^ w → eqb (bit_and (bit_xor a b) (bit_and m n)) 0 ≡ clash w m a n b
clash_test w m a n b h =
    zero_test w _ (lt_of_le_of_lt (and_le_r (bit_xor a b) (bit_and m n)) (lt_of_le_of_lt (and_le_r m n) h)) ∙ clash_bits w m a n b

either : (c x y : Bool) → (c ≡ true → x ≡ y) → cond c x y ≡ y
either true x y h = h refl
either false x y h = refl

module _ (w m a n b : ℕ) where
  pub clash_at : (clash w m a n b ≡ true) ↔ ((i : ℕ) → i < w → bit m i ≡ true → bit n i ≡ true → bit a i ≡ bit b i)
  unfolding clash
  clash_at =
      let all = alike_at w (λ i. bit m i && bit n i) a b in (
        λ e i h p q. all.0 e i h (rw (p, q)),
        λ f. all.1 (λ i h e. let both = (and-eq-true_iff (bit m i) (bit n i)).0 e in f i h both.0 both.1),
      )

  -- the value has a's bits where m has a one, and b's elsewhere
  pub clash_value : clash w m a n b ≡ true → (agree w m (gate w m b a) a ≡ true) × (agree w n (gate w m b a) b ≡ true)
  unfolding gate
  clash_value e = ((agree_at w m _ a).1 in_a, (agree_at w n _ b).1 in_b)
    where
      made : (i : ℕ) → i < w → bit (gate w m b a) i ≡ cond (bit m i) (bit a i) (bit b i)
      made i h = bit_field w _ i h

      in_a : (i : ℕ) → i < w → bit m i ≡ true → bit (gate w m b a) i ≡ bit a i
      in_a i h p = made i h ∙ rw p

      in_b : (i : ℕ) → i < w → bit n i ≡ true → bit (gate w m b a) i ≡ bit b i
      in_b i h q = made i h ∙ either (bit m i) (bit a i) (bit b i) (λ p. clash_at.0 e i h p q)

  pub clash_of : (x : ℕ) → agree w m x a ≡ true → agree w n x b ≡ true → clash w m a n b ≡ true
  clash_of x p q = clash_at.1 (λ i h s t. sym ((agree_at w m x a).0 p i h s) ∙ (agree_at w n x b).0 q i h t)

  pub clash_exists : (clash w m a n b ≡ true) ↔ ((x : ℕ) × (x < 2 ^ w) × (agree w m x a ≡ true) × (agree w n x b ≡ true))
  clash_exists = (
    λ e. (gate w m b a, gate_fits w m b a, (clash_value e).0, (clash_value e).1),
    λ x. clash_of x.0 x.2 x.3,
  )
