-- A line of bytes as it is held.
use Rattle.std.specs.Prelude.{ℕ, ◌+◌, Bool, cond, List, [], ◌∷◌, eqb, ltb, take, set, replicate}
use Rattle.text.specs.declared.Text.{Text}

-- There is room for the longest line that is printed, and for more than the longest that has a meaning
abbrev pub room : ℕ
room = 22

abbrev pub empty : Text
empty = record { bytes = replicate room 0; length = 0 }

abbrev pub is_empty : Text → Bool
is_empty t = eqb t.length 0

-- one more byte; where there is no room for it, it is dropped
unfoldable pub pushed : Text → (byte : ℕ) → Text
pushed t byte = cond (ltb t.length room) (record { bytes = set t.bytes t.length byte; length = t.length + 1 }) t

abbrev pub with_bytes : Text → List ℕ → Text
with_bytes t [] = t
with_bytes t (b ∷ bs) = with_bytes (pushed t b) bs

abbrev pub text : List ℕ → Text
text bs = with_bytes empty bs

-- the bytes that a text holds
abbrev pub held : Text → List ℕ
held t = take t.length t.bytes
