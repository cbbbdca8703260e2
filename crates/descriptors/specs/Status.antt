-- The segment status register, handbook 3.1.6.
use Rattle.std.specs.Prelude.{ℕ, ◌<◌, ◌≡◌, ◌≢◌, Bool, false, ◌&&◌, ◌||◌, not, cond, eqb}
use Rattle.masks.specs.Fields.{bit, field}

-- The bits by name, from the row that 3.1.6 prints.
abbrev pub E : ℕ
E = 0

abbrev pub WP : ℕ
WP = 1

abbrev pub M : ℕ
M = 2

abbrev pub IP : ℕ
IP = 3

abbrev pub I : ℕ
I = 4

abbrev pub U : ℕ
U = 7

-- "Bits 5 and 6 are reserved for future use."
abbrev pub reserved : (i : ℕ) → Bool
reserved i = eqb i 5 || eqb i 6

-- the status with bit i set
unfoldable pub raise : (i ssr : ℕ) → ℕ
raise i ssr = field 8 (λ k. eqb k i || bit ssr k)

-- the status with bit i clear
unfoldable pub lower : (i ssr : ℕ) → ℕ
lower i ssr = field 8 (λ k. cond (eqb k i) false (bit ssr k))

-- the clean form: a reserved bit is zero when read, and IP is cleared if the E bit is a "0"
unfoldable pub clean : (ssr : ℕ) → ℕ
clean ssr = field 8 (λ i. cond (reserved i || (eqb i IP && not (bit ssr E))) false (bit ssr i))

-- 4.5.3.2: the U bit is set by a successful translation; if the I bit is set, then the IP bit is set
unfoldable pub used : (ssr : ℕ) → ℕ
used ssr = cond (bit ssr I) (raise IP (raise U ssr)) (raise U ssr)

-- 4.5.3.2: the M bit is set if the cycle was a write
unfoldable pub modified : (ssr : ℕ) → ℕ
modified ssr = raise M ssr

-- 4.6.3.2: disabled, its E bit is cleared; and so is IP (3.1.6)
unfoldable pub disabled : (ssr : ℕ) → ℕ
disabled ssr = clean (lower E ssr)

-- 4.6.2.4: any bit may be written except the E bit: enable may be cleared but it may not be set
unfoldable pub rewritten : (old value : ℕ) → ℕ
rewritten old value = cond (bit old E) (clean value) (disabled value)

-- What an access leaves of a status, bit by bit: U and M are set or not, IP is set with U if I is set, and every other bit stays
pub record Raised (sets : Bool × Bool) (before after : ℕ) : Type 0 where
  pub u : bit after U ≡ (bit before U || sets.0)
  pub m : bit after M ≡ (bit before M || sets.1)
  pub ip : bit after IP ≡ (bit before IP || (sets.0 && bit before I))
  pub others : (k : ℕ) → k < 8 → k ≢ U → k ≢ M → k ≢ IP → bit after k ≡ bit before k
