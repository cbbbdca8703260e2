-- Fields of any width under a mask, bit by bit. Bit 0 is the lowest; w is the width in bits.
use Rattle.std.specs.Prelude.{ℕ, zero, suc, ◌+◌, ◌*◌, ◌/◌, ◌%◌, ◌^◌, Bool, true, ◌&&◌, cond, eqb}
use Rattle.std.specs.Bool.{beq}

-- bit i of x is a one
unfoldable pub bit : (x i : ℕ) → Bool
bit x i = eqb (x / 2 ^ i % 2) 1

-- p holds at each bit position of a field
unfoldable pub every : (w : ℕ) → (ℕ → Bool) → Bool
every zero p = true
every (suc w) p = p w && every w p

-- the field that has a one exactly where p holds
unfoldable pub field : (w : ℕ) → (ℕ → Bool) → ℕ
field zero p = 0
field (suc w) p = cond (p w) 1 0 * 2 ^ w + field w p

-- a and b have the same bit wherever c holds
unfoldable pub alike : (w : ℕ) → (ℕ → Bool) → (a b : ℕ) → Bool
alike w c a b = every w (λ i. cond (c i) (beq (bit a i) (bit b i)) true)

-- a and b agree wherever the mask m has a one (handbook 3.1.2, 3.1.5)
unfoldable pub agree : (w m a b : ℕ) → Bool
agree w m a b = alike w (bit m) a b

-- a and b agree wherever the masks m and n both have a one
unfoldable pub clash : (w m a n b : ℕ) → Bool
clash w m a n b = alike w (λ i. bit m i && bit n i) a b

-- a is passed through where the mask m has a zero, b is gated out where it has a one (3.1.3)
unfoldable pub gate : (w m a b : ℕ) → ℕ
gate w m a b = field w (λ i. cond (bit m i) (bit b i) (bit a i))
