-- Bytes and words.
--     bytes_drop, bytes_take, bytes_zero    what is left of bytes, and zeros, are bytes
--     word_fits, word_back                  a word of two bytes, and the two bytes of a word
--     word_bytes                            `to_be_bytes` and `to_le_bytes`
--     within_all, take_within, zeroed_front    as many as there are
-- Assumes nothing.
use Prim.Native.Nat.{ℕ, zero, suc, ◌+◌, ◌/◌, ◌%◌, ◌^◌, ◌<◌, ◌≤◌, min}
use mathlib.Core.Path.{◌≡◌, ap}
use mathlib.Core.List.{List, [], ◌∷◌, ◌++◌, reverse}
use native.Mathlib.Nat.{min-le_right, min-eq_left, min-zero, zero-min, suc-min-suc}
use native.Mathlib.Omega.{arith}
use lib.Dec.{lit<}
use lib.ListN.{length, take, drop, replicate}
use lib.Seq.{get_or-drop}
use Rattle.std.specs.Int.{w16, to_be_bytes, to_le_bytes}
use Rattle.pieces.specs.Pieces.{Bytes, zeroed, join, high_first, low_first}

pub bytes_drop : (n : ℕ) (b : List ℕ) → Bytes b → Bytes (drop n b)
bytes_drop n b h i = rw get_or-drop (h (n + i))

pub bytes_take : (n : ℕ) (b : List ℕ) → Bytes b → Bytes (take n b)
bytes_take zero b h i = lit< tt
bytes_take (suc n) [] h i = lit< tt
bytes_take (suc n) (x ∷ b) h zero = h 0
bytes_take (suc n) (x ∷ b) h (suc i) = bytes_take n b (λ k. h (suc k)) i

pub bytes_zero : (n : ℕ) → Bytes (replicate n 0)
bytes_zero zero i = lit< tt
bytes_zero (suc n) zero = lit< tt
bytes_zero (suc n) (suc i) = bytes_zero n i

pub word_fits : {low high : ℕ} → low < 2 ^ 8 → high < 2 ^ 8 → join high low < 2 ^ 16
word_fits h k = omega arith

pub word_back : (x : ℕ) → join (x / 256) (x % 256) ≡ x
word_back x = omega arith

pub word_bytes : (x : ℕ) → x < 2 ^ 16 → (to_be_bytes w16 x ≡ high_first x) × (to_le_bytes w16 x ≡ low_first x)
word_bytes x h =
    let low : to_le_bytes w16 x ≡ low_first x = ap (λ (high : ℕ). x % 256 ∷ high ∷ []) (omega arith) in
    (ap reverse low, low)

pub within_all : (r wanted all : ℕ) → r ≡ min wanted all → r ≤ all
within_all r wanted all e = rw e (min-le_right wanted all)

pub take_within : (n : ℕ) (l : List ℕ) → take (min n (length l)) l ≡ take n l
take_within zero l = rw (zero-min (length l))
take_within (suc n) [] = rw (min-zero (suc n))
take_within (suc n) (x ∷ l) = rw (suc-min-suc n (length l)) (ap (λ (r : List ℕ). x ∷ r) (take_within n l))

pub zeroed_front : (n : ℕ) (b : List ℕ) → n ≤ length b → zeroed n b ≡ replicate n 0 ++ drop n b
zeroed_front n b h = rw (min-eq_left h)
