-- Bits of a status, as the code tests, sets and clears them: by the power of two that has the bit.
--     raised     the or sets it
--     lowered    the and with the other bits clears it
-- Assumes nothing.
use Prim.Native.Nat.{ℕ, ◌-◌, ◌^◌, ◌<◌}
use mathlib.Core.Path.{◌≡◌, refl, ap, ◌∙◌}
use mathlib.Core.Bool.{Bool, true, false, not, ◌||◌, cond, beq, false≢true}
use lib.Dec.{eqb}
use lib.Pow.{pow-lt, ones_sub-lt}
use lib.Bits.{bit_and, bit_or}
use Rattle.masks.specs.Fields.{bit, every}
use Rattle.masks.proofs.Bits.{or_field, and_field, field_cong, field_fits, bit_not, every_at}
use Rattle.descriptors.specs.Status.{raise, lower}

alike : (a b : Bool) → beq a b ≡ true → a ≡ b
alike true true e = refl
alike true false e = absurd (false≢true e)
alike false true e = absurd (false≢true e)
alike false false e = refl

powers : every 8 (λ i. every 8 (λ k. beq (bit (2 ^ i) k) (eqb k i))) ≡ true
unfolding every bit
powers = refl

power_bit : (i k : ℕ) → i < 8 → k < 8 → bit (2 ^ i) k ≡ eqb k i
power_bit i k h j =
    let each = (every_at 8 (λ i. every 8 (λ k. beq (bit (2 ^ i) k) (eqb k i)))).0 powers i h in
    alike _ _ ((every_at 8 (λ k. beq (bit (2 ^ i) k) (eqb k i))).0 each k j)

pub raised : (x i m : ℕ) → x < 2 ^ 8 → i < 8 → m ≡ 2 ^ i → bit_or x m ≡ raise i x
unfolding raise
raised x i m h j e =
    rw e (or_field 8 x (2 ^ i) h (pow-lt j))
    ∙ field_cong 8 _ _ (λ k l. ap (λ (b : Bool). b || bit x k) (power_bit i k j l))

pub raise_fits : (i x : ℕ) → raise i x < 2 ^ 8
unfolding raise
raise_fits i x = field_fits 8 _

pub lowered : (x i m : ℕ) → i < 8 → m ≡ 2 ^ 8 - 1 - 2 ^ i → bit_and x m ≡ lower i x
unfolding lower
lowered x i m j e =
    rw e (and_field 8 x (2 ^ 8 - 1 - 2 ^ i) (ones_sub-lt 8 (2 ^ i)))
    ∙ field_cong 8 (λ k. cond (bit (2 ^ 8 - 1 - 2 ^ i) k) (bit x k) false) (λ k. cond (eqb k i) false (bit x k))
    (λ k l. rw (bit_not 8 (2 ^ i) k (pow-lt j) l, power_bit i k j l) (other (eqb k i) (bit x k)))
  where
    other : (b v : Bool) → cond (not b) v false ≡ cond b false v
    other true v = refl
    other false v = refl
