-- What a text holds.
--     held_text      of a list of bytes a text holds the first 22
--     held_short     and all of them, where there are no more
--     with_append, text_snoc    bytes after bytes
--     not_empty      of some bytes it is not empty
-- Assumes nothing.
use Prim.Native.Nat.{ℕ, ◌+◌, ◌≤◌, ◌<◌}
use mathlib.Core.Path.{◌≡◌, refl, sym, ◌∙◌}
use mathlib.Core.Bool.{Bool, true, false, cond}
use mathlib.Core.List.{List, [], ◌∷◌, ◌++◌, append-nil}
use native.Mathlib.Nat.{le_refl}
use native.Mathlib.Numerals.{add-one}
use native.Mathlib.Omega.{arith}
use lib.Dec.{ltb}
use lib.ListN.{length, take, set, length-set}
use lib.Seq.{take_all, take-suc-set, take_at, append_snoc, length-take-le}
use Rattle.std.specs.Prelude.{fold}
use borrow.Author.Tests.{ne_eqb, ltb-true, ltb-false}
use Rattle.text.specs.Text.{room, empty, is_empty, pushed, with_bytes, text, held}
use Rattle.text.specs.declared.Text.{Text}

-- a text that is made by pushing has its room, and holds no more
abbrev Made : Text → Type 0
Made t = (length t.bytes ≡ room) × (t.length ≤ room)

-- one more byte, where there is room
abbrev grown : (t : Text) (b : ℕ) → Text
grown t b = record { bytes = set t.bytes t.length b; length = t.length + 1 }

held_grown : (t : Text) (b : ℕ) → t.length < length t.bytes → held (grown t b) ≡ held t ++ b ∷ []
held_grown t b h = rw add-one (take-suc-set t.bytes t.length b h)

holds : (t : Text) (bs : List ℕ) → Made t → held (with_bytes t bs) ≡ take room (held t ++ bs)
unfolding pushed
holds t [] m = sym (rw (append-nil (held t)) (take_all room (held t) (rw (length-take-le t.length t.bytes (omega (arith, m.0, m.1))) m.1)))
holds t (b ∷ bs) m = go (ltb t.length room) refl (holds (grown t b) bs) (holds t bs m)
  where
    go : (c : Bool) → ltb t.length room ≡ c
        → (Made (grown t b) → held (with_bytes (grown t b) bs) ≡ take room (held (grown t b) ++ bs))
        → held (with_bytes t bs) ≡ take room (held t ++ bs)
        → held (with_bytes (cond c (grown t b) t) bs) ≡ take room (held t ++ b ∷ bs)
    go true e next same =
        let h = ltb-true t.length room e in
        next (length-set t.bytes t.length b ∙ m.0, omega arith)
        ∙ rw (held_grown t b (omega (arith, m.0)), append_snoc (held t) b bs) refl
    go false e next same =
        let full : t.length ≡ room = omega (arith, ltb-false t.length room e, m.1) in
        let all : length (held t) ≡ room = length-take-le t.length t.bytes (omega (arith, m.0)) ∙ full in
        same ∙ take_at (held t) bs room all ∙ sym (take_at (held t) (b ∷ bs) room all)

pub held_text : (bs : List ℕ) → held (text bs) ≡ take room bs
held_text bs = holds empty bs (refl, omega arith)

pub held_short : (bs : List ℕ) → length bs ≤ 22 → held (text bs) ≡ bs
held_short bs h = held_text bs ∙ take_all room bs h

pub with_append : (t : Text) (xs ys : List ℕ) → with_bytes t (xs ++ ys) ≡ with_bytes (with_bytes t xs) ys
with_append t [] ys = refl
with_append t (x ∷ xs) ys = with_append (pushed t x) xs ys

-- the bytes pushed in turn
pub folded : (t : Text) (bs : List ℕ) → fold pushed t bs ≡ with_bytes t bs
folded t [] = refl
folded t (b ∷ bs) = folded (pushed t b) bs

pub text_snoc : (t : Text) (bs : List ℕ) (b : ℕ) → with_bytes t (bs ++ b ∷ []) ≡ pushed (with_bytes t bs) b
text_snoc t bs b = with_append t bs (b ∷ [])

-- a text of some bytes is not empty
grows : (t : Text) (bs : List ℕ) → t.length ≤ (with_bytes t bs).length
unfolding pushed
grows t [] = le_refl t.length
grows t (b ∷ bs) = go (ltb t.length room) (grows (grown t b) bs) (grows t bs)
  where
    go : (c : Bool) → t.length + 1 ≤ (with_bytes (grown t b) bs).length → t.length ≤ (with_bytes t bs).length
        → t.length ≤ (with_bytes (cond c (grown t b) t) bs).length
    go true next same = omega arith
    go false next same = same

pub not_empty : (b : ℕ) (bs : List ℕ) → is_empty (text (b ∷ bs)) ≡ false
unfolding pushed
not_empty b bs = ne_eqb _ _ (λ (e : (with_bytes (grown empty b) bs).length ≡ 0). absurd (omega (arith, grows (grown empty b) bs)))
