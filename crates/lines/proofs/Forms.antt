-- A form, byte after byte. Assumes nothing.
use Prim.Native.Nat.{ℕ, zero, suc, ◌+◌, ◌<◌}
use mathlib.Core.Path.{◌≡◌, refl, ap}
use mathlib.Core.Logic.{◌≢◌}
use mathlib.Core.Bool.{Bool, true, false, ◌&&◌, and-eq-true_iff, false≢true}
use mathlib.Core.List.{List, [], ◌∷◌}
use native.Mathlib.Nat.{le_of_suc-le-suc, not-suc-le-zero}
use native.Mathlib.Numerals.{add-one}
use native.Mathlib.Omega.{arith}
use lib.Dec.{lit<}
use lib.ListN.{length, get_or, drop}
use Rattle.std.specs.List.{list_all, zip}
use Rattle.text.proofs.Values.{byte_small}
use Rattle.lines.specs.Line.{write_form, fits_at, fits, byte_at}

-- a line as long as the form, byte by byte
pub fits_all : (form line : List ℕ) → length form ≡ length line → list_all (λ (p : ℕ × ℕ). fits_at p.0 p.1) (zip form line) ≡ fits form line
unfolding fits
fits_all [] [] e = refl
fits_all [] (c ∷ line) e = absurd (omega arith)
fits_all (f ∷ form) [] e = absurd (omega arith)
fits_all (f ∷ form) (c ∷ line) e = ap (λ (b : Bool). fits_at f c && b) (fits_all form line (omega arith))

-- byte after byte: what stands from a place on
next : (form line : List ℕ) (i : ℕ) → i < length form → i < length line
    → fits (drop i form) (drop i line) ≡ fits_at (get_or form i 0) (get_or line i 0) && fits (drop (suc i) form) (drop (suc i) line)
unfolding fits
next [] line i h k = absurd (not-suc-le-zero h)
next (f ∷ form) [] i h k = absurd (not-suc-le-zero k)
next (f ∷ form) (c ∷ line) zero h k = refl
next (f ∷ form) (c ∷ line) (suc i) h k = next form line i (le_of_suc-le-suc h) (le_of_suc-le-suc k)

pub fits_next : (form line : List ℕ) (i : ℕ) → i < length form → i < length line
    → fits (drop i form) (drop i line) ≡ fits_at (get_or form i 0) (get_or line i 0) && fits (drop (i + 1) form) (drop (i + 1) line)
fits_next form line i h k = rw add-one (next form line i h k)

pub fits_end : (form line : List ℕ) → length line ≡ length form → fits (drop (length form) form) (drop (length form) line) ≡ true
unfolding fits
fits_end [] [] e = refl
fits_end [] (c ∷ line) e = absurd (omega arith)
fits_end (f ∷ form) [] e = absurd (omega arith)
fits_end (f ∷ form) (c ∷ line) e = fits_end form line (omega arith)

pub fits_length : (form line : List ℕ) → length line ≢ length form → fits form line ≡ false
unfolding fits
fits_length [] [] e = absurd (e refl)
fits_length [] (c ∷ line) e = refl
fits_length (f ∷ form) [] e = refl
fits_length (f ∷ form) (c ∷ line) e = rw (fits_length form line (λ q. e (ap suc q))) (and_false (fits_at f c))
  where
    and_false : (b : Bool) → b && false ≡ false
    and_false true = refl
    and_false false = refl

-- what a line that has the form is known by: its length, and each byte
pub fits_long : (form line : List ℕ) → fits form line ≡ true → length line ≡ length form
unfolding fits
fits_long [] [] e = refl
fits_long [] (c ∷ line) e = absurd (false≢true e)
fits_long (f ∷ form) [] e = absurd (false≢true e)
fits_long (f ∷ form) (c ∷ line) e = ap suc (fits_long form line ((and-eq-true_iff (fits_at f c) (fits form line)).0 e).1)

pub fits_byte : (form line : List ℕ) → fits form line ≡ true → (i : ℕ) → i < length form → fits_at (get_or form i 0) (get_or line i 0) ≡ true
unfolding fits
fits_byte [] line e i h = absurd (not-suc-le-zero h)
fits_byte (f ∷ form) [] e i h = absurd (false≢true e)
fits_byte (f ∷ form) (c ∷ line) e zero h = ((and-eq-true_iff (fits_at f c) (fits form line)).0 e).0
fits_byte (f ∷ form) (c ∷ line) e (suc i) h =
    fits_byte form line ((and-eq-true_iff (fits_at f c) (fits form line)).0 e).1 i (le_of_suc-le-suc h)

-- a register write is of a byte
pub write_small : (line : List ℕ) → fits write_form line ≡ true → byte_at line 7 < 256
write_small line e =
    byte_small (get_or line 7 0) (get_or line 8 0) (fits_byte write_form line e 7 (lit< tt)) (fits_byte write_form line e 8 (lit< tt))
