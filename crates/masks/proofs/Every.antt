-- A loop that tries a rule at one position after the other, and stops where it fails.
--     Tried n p i      of n positions those below i are tried
--     begun, next      before the first turn; after a turn
--     failed, ended    what `every` is where one fails, and after the last
-- Assumes nothing.
use Prim.Native.Nat.{ℕ, ◌+◌, ◌<◌, ◌≤◌}
use mathlib.Core.Path.{◌≡◌, refl, sym, ap, ◌∙◌}
use mathlib.Core.Bool.{Bool, true, false, false≢true}
use native.Mathlib.Numerals.{add-one}
use native.Mathlib.Omega.{arith}
use Rattle.masks.specs.Fields.{every}
use Rattle.masks.proofs.Bits.{every_at}

pub record Tried (n : ℕ) (p : ℕ → Bool) (i : ℕ) : Type 0 where
  pub few : i ≤ n
  pub held : every i p ≡ true

module _ {n : ℕ} {p : ℕ → Bool} where
  pub begun : Tried n p 0
  unfolding every
  begun = record { few = omega arith; held = refl }

  pub next : {i : ℕ} → Tried n p i → i < n → p i ≡ true → Tried n p (i + 1)
  unfolding every
  next {i} t h e = record { few = omega arith; held = rw (add-one, e, t.held) refl }

  pub failed : {i : ℕ} → Tried n p i → i < n → p i ≡ false → false ≡ every n p
  failed {i} t h e = go (every n p) refl
    where
      go : (b : Bool) → every n p ≡ b → false ≡ b
      go true q = absurd (false≢true (sym e ∙ (every_at n p).0 q i h))
      go false q = refl

  pub ended : {i : ℕ} → Tried n p i → n ≤ i → true ≡ every n p
  ended {i} t h = let all : i ≡ n = omega arith in sym t.held ∙ ap (λ (k : ℕ). every k p) all
