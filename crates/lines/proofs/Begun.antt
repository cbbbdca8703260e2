-- The lines of an input.
--     begun           a line that has begun, and what is still to come
--     line_for_line   one line is printed for each
-- Assumes nothing.
use Rattle.std.specs.Prelude.{Option, Some, None}
use Prim.Native.Nat.{ℕ, zero, suc, ◌/◌, ◌%◌}
use mathlib.Core.Path.{◌≡◌, refl, sym, ap, ◌∙◌}
use mathlib.Core.Bool.{Bool, true, false, not, ◌&&◌, and-eq-true_iff}
use mathlib.Core.List.{List, [], ◌∷◌, ◌++◌}
use native.Mathlib.Omega.{arith}
use lib.Dec.{eqb, ltb}
use lib.ListN.{length, get_or}
use Rattle.text.specs.Ascii.{ascii, line_feed}
use Rattle.text.specs.Digits.{hex_digit, decimal_number}
use Rattle.chip.specs.Answer.{values}
use Rattle.chip.specs.Call.{performed}
use Rattle.chip.specs.declared.answer.Values.{Values}
use Rattle.chip.specs.declared.system.System.{System}
use Rattle.chip.proofs.Checked.{either}
use Rattle.lines.specs.Line.{meaning}
use Rattle.lines.specs.Print.{flag, reason, printed}
use Rattle.lines.specs.Turn.{told, left, longer, lines, answers}
use Rattle.chip.specs.declared.call.Call.{Call}

-- the lines of an input, of which these bytes came before
abbrev pub begun : (line : List ℕ) → List (List ℕ) → List (List ℕ)
begun [] ls = ls
begun (c ∷ line) ls = longer c (begun line ls)

-- one byte more has come
pub begun_snoc : (line : List ℕ) (c : ℕ) (ls : List (List ℕ)) → begun (line ++ c ∷ []) ls ≡ begun line (longer c ls)
begun_snoc [] c ls = refl
begun_snoc (b ∷ line) c ls = ap (longer b) (begun_snoc line c ls)

-- its line feed has come
pub begun_ended : (line : List ℕ) (ls : List (List ℕ)) → begun line ([] ∷ ls) ≡ line ∷ ls
begun_ended [] ls = refl
begun_ended (b ∷ line) ls = ap (longer b) (begun_ended line ls)

-- the input has ended
pub begun_last : (b : ℕ) (line : List ℕ) → begun (b ∷ line) [] ≡ (b ∷ line) ∷ []
begun_last b [] = refl
begun_last b (c ∷ line) = ap (longer b) (begun_last c line)

-- ---- one line for each

-- no line feed among these
abbrev plain : List ℕ → Bool
plain [] = true
plain (c ∷ l) = not (eqb c line_feed) && plain l

plain_at : (l : List ℕ) → plain l ≡ true → (i : ℕ) → eqb (get_or l i 0) line_feed ≡ false
plain_at [] e i = refl
plain_at (c ∷ l) e zero = go (eqb c line_feed) ((and-eq-true_iff (not (eqb c line_feed)) (plain l)).0 e).0
  where
    go : (b : Bool) → not b ≡ true → b ≡ false
    go true e = sym e
    go false e = refl
plain_at (c ∷ l) e (suc i) = plain_at l ((and-eq-true_iff (not (eqb c line_feed)) (plain l)).0 e).1 i

plain_hex : (n : ℕ) → eqb (hex_digit n) line_feed ≡ false
plain_hex n = plain_at (ascii "0123456789ABCDEF") refl (n % 16)

plain_flag : (b : Bool) → eqb (flag b) line_feed ≡ false
plain_flag true = refl
plain_flag false = refl

-- bytes that are no line feed, then one, and the rest
data Fed : List ℕ → (rest : List ℕ) → Type 0 where
  feed : {rest : List ℕ} → Fed (line_feed ∷ rest) rest
  next : {c : ℕ} {l rest : List ℕ} → eqb c line_feed ≡ false → Fed l rest → Fed (c ∷ l) rest

fed_lines : {l rest : List ℕ} → Fed l rest → length (lines l) ≡ suc (length (lines rest))
fed_lines feed = refl
fed_lines (next {c} {l} {rest} e f) = rw e (go (lines l) (fed_lines f))
  where
    go : (ls : List (List ℕ)) → length ls ≡ suc (length (lines rest)) → length (longer c ls) ≡ suc (length (lines rest))
    go [] q = absurd (omega arith)
    go (l ∷ ls) q = q

number_fed : (n : ℕ) (rest : List ℕ) → Fed (decimal_number n ++ ascii "\n" ++ rest) rest
number_fed n rest =
    either (λ (d : List ℕ). Fed (d ++ ascii "\n" ++ rest) rest) (ltb n 10) (λ e. next (plain_hex (n % 10)) feed)
    (λ e. next (plain_hex (n / 10 % 10)) (next (plain_hex (n % 10)) feed))

reason_fed : (v : Values) (rest : List ℕ) → Fed (reason v ++ ascii "\n" ++ rest) rest
reason_fed v rest =
    search (either (λ (l : List ℕ). Fed (l ++ ascii "\n" ++ rest) rest) v.near, feed, next, plain_hex) depth 12

printed_fed : (v : Values) (irq : Bool) (rest : List ℕ) → Fed (printed v irq ++ rest) rest
unfolding printed
printed_fed v irq rest = search (either (λ (l : List ℕ). Fed (l ++ rest) rest), feed, next, plain_hex, plain_flag, number_fed, reason_fed) depth 40

told_fed : (l : Option Call) (s : System) (rest : List ℕ) → Fed (told l s ++ rest) rest
told_fed (Some c) s rest = printed_fed (values (performed c s).answer) (performed c s).irq rest
told_fed None s rest = next refl (next refl (next refl feed))

pub line_for_line : (ls : List (List ℕ)) (s : System) → length (lines (answers ls s)) ≡ length ls
line_for_line [] s = refl
line_for_line (l ∷ ls) s = fed_lines (told_fed (meaning l) s (answers ls (left (meaning l) s))) ∙ ap suc (line_for_line ls (left (meaning l) s))
