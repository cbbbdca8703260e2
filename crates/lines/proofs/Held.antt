-- A line means the same where it is held, and what is printed is held in full.
--     meaning_held   a line that is held means what the line means, however long it is
--     long_bad       no line above 12 bytes has a meaning
--     told_held      what is told of a line is held in full
-- Assumes nothing.
use Rattle.std.specs.Prelude.{Option, Some, None}
use Prim.Native.Nat.{ℕ, ◌≤◌, ◌<◌}
use mathlib.Core.Path.{◌≡◌, refl, sym, ap, ◌∙◌}
use mathlib.Core.Bool.{Bool, true, false}
use mathlib.Core.List.{List, ◌∷◌, ◌++◌}
use native.Mathlib.Omega.{arith}
use lib.Dec.{ltb, lit<, lit≤}
use lib.ListN.{length, take}
use lib.Seq.{take_all, length-take-le}
use borrow.Author.Tests.{ltb-true, ltb-false}
use Rattle.text.specs.Ascii.{ascii}
use Rattle.text.specs.Digits.{decimal_number}
use Rattle.text.specs.Text.{room, text, held}
use Rattle.text.proofs.Texts.{held_text, held_short}
use Rattle.chip.specs.Answer.{values}
use Rattle.chip.specs.Call.{performed}
use Rattle.chip.specs.declared.answer.Values.{Values}
use Rattle.chip.specs.declared.system.System.{System}
use Rattle.chip.proofs.Checked.{either}
use Rattle.lines.specs.Line.{start_form, write_form, read_form, access_form, acknowledge_form, meaning}
use Rattle.lines.specs.Print.{flag, reason, printed}
use Rattle.lines.specs.Turn.{told}
use Rattle.chip.specs.declared.call.Call.{Call}
use Rattle.lines.proofs.Forms.{fits_length}

pub long_bad : (l : List ℕ) → 12 < length l → meaning l ≡ None
unfolding meaning
long_bad l h =
    rw (
      fits_length start_form l (λ e. absurd (omega arith)),
      fits_length write_form l (λ e. absurd (omega arith)),
      fits_length read_form l (λ e. absurd (omega arith)),
      fits_length access_form l (λ e. absurd (omega arith)),
      fits_length acknowledge_form l (λ e. absurd (omega arith)),
    )

pub meaning_held : (l : List ℕ) → meaning (held (text l)) ≡ meaning l
meaning_held l = rw (held_text l) (go (ltb room (length l)) refl)
  where
    go : (c : Bool) → ltb room (length l) ≡ c → meaning (take room l) ≡ meaning l
    go false e = ap meaning (take_all room l (ltb-false room (length l) e))
    go true e =
        let h = ltb-true room (length l) e in
        long_bad (take room l) (rw (length-take-le room l (omega arith)) (lit< tt)) ∙ sym (long_bad l (omega arith))

refused_short : (n : ℕ) → length (ascii "no " ++ decimal_number n ++ ascii "\n") ≤ room
refused_short n = either (λ (l : List ℕ). length (ascii "no " ++ l ++ ascii "\n") ≤ room) (ltb n 10) (λ e. lit≤ tt) (λ e. lit≤ tt)

reason_short : (v : Values) (irq : Bool) → length (ascii "U " ++ flag irq ∷ ascii " " ++ reason v ++ ascii "\n") ≤ room
reason_short v irq =
    either (λ (l : List ℕ). length (ascii "U " ++ flag irq ∷ ascii " " ++ l ++ ascii "\n") ≤ room) v.near (λ e. lit≤ tt) (λ e. lit≤ tt)

printed_short : (v : Values) (irq : Bool) → length (printed v irq) ≤ room
unfolding printed
printed_short v irq = search (either (λ (l : List ℕ). length l ≤ room), refused_short, reason_short, lit≤) depth 8

told_short : (l : Option Call) (s : System) → length (told l s) ≤ room
told_short (Some c) s = printed_short (values (performed c s).answer) (performed c s).irq
told_short None s = lit≤ tt

pub told_held : (l : Option Call) (s : System) → held (text (told l s)) ≡ told l s
told_held l s = held_short (told l s) (told_short l s)
