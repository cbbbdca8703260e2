-- What a bit is after each operation, a number as the field of its bits, and a rule at every bit position.
--     bit-and, bit-or, bit-xor, bit_not     the bits of a result, from the operands' bits
--     field_fits, bit_field, field_bits     a field fits its width, has the bits that it was made of, and a number is the field of its bits
--     zero_test                             a number is zero exactly where none of its bits is a one
--     every_at                              a rule holds of a field exactly when it holds at each position
--     and_field, or_field, bit_test         a number under a mask, and with its bits set; the test by and with a power of two tells a bit
--     test_of, clear_of, set_of             the same as the code writes the power, and as a branch has found it
-- Assumes nothing.
use mathlib.Core.Path.{◌≡◌, refl, sym, ap, ◌∙◌}
use mathlib.Core.Logic.{◌↔◌, ⊎_elim}
use mathlib.Core.Bool.{Bool, true, false, not, ◌&&◌, ◌||◌, xor, cond, and-eq-true_iff, or_comm}
use Prim.Native.Nat.{ℕ, zero, suc, ◌+◌, ◌-◌, ◌*◌, ◌/◌, ◌%◌, ◌^◌, ◌<◌}
use native.Mathlib.Nat.{not-suc-le-zero, le_of_suc-le-suc, eq-or-lt_of_le, lt_of_le_of_lt, zero-mul, zero-add, mod-one, mod-lt, pow-suc, mod-eq_of_lt}
use native.Mathlib.Numerals.{one-add}
use native.Mathlib.Omega.{arith}
use lib.Dec.{eqb}
use lib.Pow.{pow_pos, high, low, field as pow-field, mod-mod-pow, mod-pow-add}
use lib.Bits.{bit_and, bit_or, bit_xor, and_shr, and_mod, or_shr, or_mod, xor_shr, xor_mod, and_le_r, and_high, or_lt}
use borrow.Author.Tests.{eq-eqb, ne_eqb}
use Rattle.masks.specs.Fields.{bit, every, field}

-- ---- the bits of a result: an operation that works on each digit apart works on each bit apart
module _ (op : ℕ → ℕ → ℕ) (f : Bool → Bool → Bool)
    (shifted : (a b k : ℕ) → op a b / 2 ^ k ≡ op (a / 2 ^ k) (b / 2 ^ k))
    (low_digits : (a b k : ℕ) → op a b % 2 ^ k ≡ op (a % 2 ^ k) (b % 2 ^ k))
    (digit : (x y : ℕ) → x < 2 → y < 2 → eqb (op x y) 1 ≡ f (eqb x 1) (eqb y 1)) where
  bit_op : (a b i : ℕ) → bit (op a b) i ≡ f (bit a i) (bit b i)
  unfolding bit
  bit_op a b i =
      ap (λ (n : ℕ). eqb (n % 2) 1) (shifted a b i)
      ∙ ap (λ (n : ℕ). eqb n 1) (low_digits (a / 2 ^ i) (b / 2 ^ i) 1)
      ∙ digit (a / 2 ^ i % 2) (b / 2 ^ i % 2) (mod-lt _ (pow_pos 1)) (mod-lt _ (pow_pos 1))

-- what holds at the four pairs of digits holds of all digits
digits : (P : ℕ → ℕ → Type 0) → P 0 0 → P 0 1 → P 1 0 → P 1 1 → (x y : ℕ) → x < 2 → y < 2 → P x y
digits P a b c d zero zero h k = a
digits P a b c d zero (suc zero) h k = b
digits P a b c d (suc zero) zero h k = c
digits P a b c d (suc zero) (suc zero) h k = d
digits P a b c d zero (suc (suc y)) h k = absurd (omega arith)
digits P a b c d (suc zero) (suc (suc y)) h k = absurd (omega arith)
digits P a b c d (suc (suc x)) zero h k = absurd (omega arith)
digits P a b c d (suc (suc x)) (suc y) h k = absurd (omega arith)

pub bit-and : (a b i : ℕ) → bit (bit_and a b) i ≡ bit a i && bit b i
bit-and = bit_op bit_and (λ x y. x && y) and_shr and_mod (digits (λ x y. eqb (bit_and x y) 1 ≡ eqb x 1 && eqb y 1) refl refl refl refl)

pub bit-or : (a b i : ℕ) → bit (bit_or a b) i ≡ bit a i || bit b i
bit-or = bit_op bit_or (λ x y. x || y) or_shr or_mod (digits (λ x y. eqb (bit_or x y) 1 ≡ eqb x 1 || eqb y 1) refl refl refl refl)

pub bit-xor : (a b i : ℕ) → bit (bit_xor a b) i ≡ xor (bit a i) (bit b i)
unfolding xor
bit-xor = bit_op bit_xor xor xor_shr xor_mod (digits (λ x y. eqb (bit_xor x y) 1 ≡ xor (eqb x 1) (eqb y 1)) refl refl refl refl)

-- ---- a field and its bits
pub field_fits : (w : ℕ) (p : ℕ → Bool) → field w p < 2 ^ w
unfolding field
field_fits zero p = omega arith
field_fits (suc w) p = rw pow-suc (go (p w) (field_fits w p))
  where
    go : (b : Bool) → field w p < 2 ^ w → cond b 1 0 * 2 ^ w + field w p < 2 ^ w * 2
    go true h = omega arith
    go false h = omega arith

pub field_cong : (w : ℕ) (p q : ℕ → Bool) → ((i : ℕ) → i < w → p i ≡ q i) → field w p ≡ field w q
unfolding field
field_cong zero p q h = refl
field_cong (suc w) p q h = rw (h w (omega arith), field_cong w p q (λ i k. h i (omega arith)))

-- the complement of a field, as `!` computes it
pub field_not : (w : ℕ) (p : ℕ → Bool) → 2 ^ w - 1 - field w p ≡ field w (λ i. not (p i))
unfolding field
field_not zero p = refl
field_not (suc w) p = rw pow-suc (go (p w) (field_fits w p) (field_not w p))
  where
    go : (b : Bool) → field w p < 2 ^ w → 2 ^ w - 1 - field w p ≡ field w (λ i. not (p i))
        → 2 ^ w * 2 - 1 - (cond b 1 0 * 2 ^ w + field w p) ≡ cond (not b) 1 0 * 2 ^ w + field w (λ i. not (p i))
    go true h e = omega arith
    go false h e = omega arith

-- what stands above a bit does not move it
bit_low : (w x i : ℕ) → i < w → bit (x % 2 ^ w) i ≡ bit x i
unfolding bit
bit_low w x i h =
    let j : ℕ = w - i - 1 in
    let e : w ≡ j + 1 + i = omega arith in
    rw (e, pow-field x (j + 1) i, mod-mod-pow (x / 2 ^ i) j 1)

bit_top : (w : ℕ) (b : Bool) (lo : ℕ) → lo < 2 ^ w → bit (cond b 1 0 * 2 ^ w + lo) w ≡ b
unfolding bit
bit_top w true lo h = rw (high 1 w h)
bit_top w false lo h = rw (high 0 w h)

pub bit_field : (w : ℕ) (p : ℕ → Bool) (i : ℕ) → i < w → bit (field w p) i ≡ p i
unfolding field
bit_field zero p i h = absurd (not-suc-le-zero h)
bit_field (suc w) p i h =
    ⊎_elim (λ e. rw e (bit_top w (p w) (field w p) (field_fits w p)))
    (λ l. sym (bit_low w _ i l) ∙ ap (λ (n : ℕ). bit n i) (low _ w (field_fits w p)) ∙ bit_field w p i l)
    (eq-or-lt_of_le (le_of_suc-le-suc h))

-- a number is the field of its bits
digit_bit : (d : ℕ) → d < 2 → cond (eqb d 1) 1 0 ≡ d
digit_bit zero h = refl
digit_bit (suc zero) h = refl
digit_bit (suc (suc d)) h = absurd (omega arith)

field_low : (w x : ℕ) → field w (bit x) ≡ x % 2 ^ w
unfolding field bit
field_low zero x = sym (mod-one x)
field_low (suc w) x =
    rw (digit_bit (x / 2 ^ w % 2) (mod-lt _ (pow_pos 1)), field_low w x, ← one-add w, mod-pow-add x 1 w)

pub field_bits : (w x : ℕ) → x < 2 ^ w → field w (bit x) ≡ x
field_bits w x h = field_low w x ∙ mod-eq_of_lt h

-- the complement of a mask has the other bits
pub bit_not : (w m i : ℕ) → m < 2 ^ w → i < w → bit (2 ^ w - 1 - m) i ≡ not (bit m i)
bit_not w m i hm h =
    ap (λ (n : ℕ). bit (2 ^ w - 1 - n) i) (sym (field_bits w m hm))
    ∙ ap (λ (n : ℕ). bit n i) (field_not w (bit m))
    ∙ bit_field w (λ k. not (bit m k)) i h

-- a field of no ones is zero
pub field_zero : (w : ℕ) (p : ℕ → Bool) → eqb (field w p) 0 ≡ every w (λ i. not (p i))
unfolding field every
field_zero zero p = refl
field_zero (suc w) p = go (p w) (field_zero w p)
  where
    go : (b : Bool) → eqb (field w p) 0 ≡ every w (λ i. not (p i)) → eqb (cond b 1 0 * 2 ^ w + field w p) 0 ≡ not b && every w (λ i. not (p i))
    go true e = ne_eqb (1 * 2 ^ w + field w p) 0 (omega (arith, pow_pos w))
    go false e = rw (zero-mul, zero-add) e

-- a number is zero exactly where none of its bits is a one
pub zero_test : (w x : ℕ) → x < 2 ^ w → eqb x 0 ≡ every w (λ i. not (bit x i))
zero_test w x h = ap (λ (n : ℕ). eqb n 0) (sym (field_bits w x h)) ∙ field_zero w (bit x)

-- ---- a rule that holds at every position
pub every_at : (w : ℕ) (p : ℕ → Bool) → (every w p ≡ true) ↔ ((i : ℕ) → i < w → p i ≡ true)
unfolding every
every_at zero p = (λ e i h. absurd (not-suc-le-zero h), λ h. refl)
every_at (suc w) p =
    let both = and-eq-true_iff (p w) (every w p) in (
      λ e i h. ⊎_elim (λ q. rw q (both.0 e).0) (λ l. (every_at w p).0 (both.0 e).1 i l) (eq-or-lt_of_le (le_of_suc-le-suc h)),
      λ h. both.1 (h w (omega arith), (every_at w p).1 (λ i l. h i (omega arith))),
    )

-- ---- one number under a mask

kept : (c x : Bool) → x && c ≡ cond c x false
kept true true = refl
kept true false = refl
kept false true = refl
kept false false = refl

pub and_field : (w x m : ℕ) → m < 2 ^ w → bit_and x m ≡ field w (λ i. cond (bit m i) (bit x i) false)
and_field w x m h =
    sym (field_bits w _ (lt_of_le_of_lt (and_le_r x m) h))
    ∙ field_cong w _ _ (λ i k. bit-and x m i ∙ kept (bit m i) (bit x i))

pub or_field : (w x m : ℕ) → x < 2 ^ w → m < 2 ^ w → bit_or x m ≡ field w (λ i. bit m i || bit x i)
or_field w x m hx hm =
    sym (field_bits w _ (or_lt w x m hx hm)) ∙ field_cong w _ _ (λ i k. bit-or x m i ∙ or_comm (bit x i) (bit m i))

pub bit_test : (x i : ℕ) → not (eqb (bit_and x (2 ^ i)) 0) ≡ bit x i
unfolding bit
bit_test x i = ap (λ (n : ℕ). not (eqb n 0)) alone ∙ go (x / 2 ^ i % 2) (mod-lt _ (pow_pos 1))
  where
    power : 2 ^ (1 + i) - 2 ^ i ≡ 2 ^ i
    power = rw (one-add, pow-suc) (omega arith)

    alone : bit_and x (2 ^ i) ≡ (x / 2 ^ i % 2) * 2 ^ i
    alone = rw power at (and_high x 1 i)

    go : (d : ℕ) → d < 2 → not (eqb (d * 2 ^ i) 0) ≡ eqb d 1
    go zero h = rw zero-mul
    go (suc zero) h = ap not (ne_eqb (1 * 2 ^ i) 0 (omega (arith, pow_pos i)))
    go (suc (suc d)) h = absurd (omega arith)

-- the same for the power as the code has it, a number
pub test_of : (x i m : ℕ) → m ≡ 2 ^ i → not (eqb (bit_and x m) 0) ≡ bit x i
test_of x i m e = rw e (bit_test x i)

pub clear_of : (x i m : ℕ) → bit_and x m ≡ 0 → m ≡ 2 ^ i → bit x i ≡ false
clear_of x i m q e = sym (test_of x i m e) ∙ ap not (eq-eqb _ _ q)

pub set_of : (x i m : ℕ) → (bit_and x m ≡ 0 → ⊥) → m ≡ 2 ^ i → bit x i ≡ true
set_of x i m q e = sym (test_of x i m e) ∙ ap not (ne_eqb _ _ q)
