-- Digits and their values.
--     hex_small, byte_small    a hex digit is below 16, and two are a byte
--     digit_back               a digit that is printed is read again
--     hex_bytes                an address is printed by its bytes
-- Assumes nothing.
use Prim.Native.Nat.{ℕ, ◌<◌, ◌/◌, ◌%◌, ◌^◌}
use mathlib.Core.Path.{◌≡◌, refl}
use mathlib.Core.Bool.{Bool, true, false, ◌&&◌, ◌||◌, and-eq-true_iff}
use mathlib.Core.List.{◌++◌}
use native.Mathlib.Omega.{arith}
use lib.Dec.{eqb, leb}
use borrow.Author.Tests.{eqb-true, leb-true, lt-ltb, le-ltb}
use Rattle.masks.specs.Fields.{every}
use Rattle.masks.proofs.Bits.{every_at}
use Rattle.text.specs.Digits.{decimal, hex, digit, byte_of, hex_digit, hex_byte, hex_address}

hex_small : (c : ℕ) → hex c ≡ true → digit c < 16
hex_small c = go (decimal c) refl
  where
    go : (b : Bool) → decimal c ≡ b → b || (leb 65 c && leb c 70) ≡ true → digit c < 16
    go true q e =
        let both = (and-eq-true_iff (leb 48 c) (leb c 57)).0 q in
        let high = leb-true c 57 both.1 in
        rw (lt-ltb c 65 (omega arith)) (omega arith)
    go false q e =
        let both = (and-eq-true_iff (leb 65 c) (leb c 70)).0 e in
        let low = leb-true 65 c both.0 in
        let high = leb-true c 70 both.1 in
        rw (le-ltb c 65 low) (omega arith)

pub byte_small : (high low : ℕ) → hex high ≡ true → hex low ≡ true → byte_of high low < 256
byte_small high low h k = omega (arith, hex_small high h, hex_small low k)

digits_back : every 16 (λ k. eqb (digit (hex_digit k)) k) ≡ true
unfolding every
digits_back = refl

pub digit_back : (n : ℕ) → n < 16 → digit (hex_digit n) ≡ n
digit_back n h = eqb-true _ _ ((every_at 16 (λ k. eqb (digit (hex_digit k)) k)).0 digits_back n h)

-- the last four bits of a number are those of its last byte
last : (n : ℕ) → n % 256 % 16 ≡ n % 16
last n = omega arith

next : (n : ℕ) → n % 256 / 16 % 16 ≡ n / 16 % 16
next n = omega arith

pub hex_bytes : (a : ℕ) → hex_byte (a / 65536 % 256) ++ hex_byte (a / 256 % 256) ++ hex_byte (a % 256) ≡ hex_address a
hex_bytes a =
    let first : a / 65536 / 16 ≡ a / 2 ^ 20 = omega arith in
    let second : a / 256 / 16 ≡ a / 2 ^ 12 = omega arith in
    rw (next (a / 65536), last (a / 65536), next (a / 256), last (a / 256), next a, last a, first, second) refl
