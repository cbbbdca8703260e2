-- The bench prints the transcript of its input. Assumes nothing.
use Prim.Native.Nat.{ℕ}
use mathlib.Core.Path.{◌≡◌, refl, sym, ap, ◌∙◌}
use mathlib.Core.Bool.{Bool, true, false, false≢true}
use mathlib.Core.List.{List, [], ◌∷◌, ◌++◌, append-nil}
use native.Mathlib.Omega.{arith}
use lib.Dec.{eqb}
use borrow.Author.Tests.{ne_eqb, eqb-true, eqb-false}
use Rattle.chip.specs.declared.system.System.{System}
use Rattle.chip.specs.Reset.{nothing}
use Rattle.text.specs.Ascii.{line_feed}
use Rattle.text.specs.Text.{empty, is_empty, pushed, text, held}
use Rattle.text.specs.declared.Text.{Text}
use Rattle.text.proofs.Texts.{text_snoc, not_empty}
use Rattle.lines.specs.Line.{meaning}
use Rattle.lines.specs.Turn.{turn, lines, answers}
use Rattle.lines.specs.declared.turn.Turn.{Turn}
use Rattle.lines.proofs.Held.{meaning_held, told_held, long_bad}
use Rattle.lines.proofs.Begun.{begun, begun_snoc, begun_ended, begun_last, line_for_line}
use Rattle.demands.specs.Bench.{Answer, Prints, byte, feed, last, end, Bench}

-- an answer, where the text of a line is in hand
answered : (l : List ℕ) (system : System) {line : Text} {t : Turn} → line ≡ text l → Answer line system t → t ≡ turn (meaning l) system
answered l system e a = a.1 ∙ rw (e, meaning_held l) refl

-- in hand is the text of the bytes of the line so far
prints_from : (l : List ℕ) {line : Text} {system : System} {input printed : List ℕ}
    → line ≡ text l → Prints line system input printed → printed ≡ answers (begun l (lines input)) system
prints_from l e (byte {c = c} {input = input} other pushed p) =
    prints_from (l ++ c ∷ []) (pushed.1 ∙ rw e (sym (text_snoc empty l c))) p ∙ rw (begun_snoc l c (lines input), ne_eqb c line_feed other) refl
prints_from l {system = s} e (feed {input = input} a new p) =
    rw
    (prints_from [] new.1 p, answered l s e a, told_held (meaning l) s, begun_ended l (lines input))
    refl
prints_from [] e (last filled a) = absurd (false≢true (filled.1 ∙ ap is_empty e))
prints_from (b ∷ l) {system = s} e (last filled a) =
    rw (answered (b ∷ l) s e a, told_held (meaning (b ∷ l)) s, begun_last b l) (sym (append-nil _))
prints_from [] e (end none) = refl
prints_from (b ∷ l) e (end none) = absurd (false≢true (sym (none.1 ∙ ap is_empty e ∙ not_empty b l)))

-- each step can be made
abbrev answer : Text → System → Turn
answer line system = turn (meaning (held line)) system

some_from : (line : Text) (system : System) (input : List ℕ) → (printed : List ℕ) × Prints line system input printed
some_from line system [] = go (is_empty line) refl
  where
    go : (b : Bool) → is_empty line ≡ b → (printed : List ℕ) × Prints line system [] printed
    go true e = ([], end {line = line} {system = system} ((tt, tt), sym e))
    go false e = (held (answer line system).text, last {line = line} {system = system} {turn = answer line system} ((tt, tt), sym e) ((tt, (tt, tt)), refl))
some_from line system (c ∷ input) =
    go (eqb c line_feed) refl (some_from empty (answer line system).system input) (some_from (pushed line c) system input)
  where
    go : (b : Bool) → eqb c line_feed ≡ b → (printed : List ℕ) × Prints empty (answer line system).system input printed
        → (printed : List ℕ) × Prints (pushed line c) system input printed → (printed : List ℕ) × Prints line system (c ∷ input) printed
    go true e next more =
        rw (eqb-true c line_feed e) (held (answer line system).text ++ next.0, feed {line = line} {next = empty} {system = system} {turn = answer line system} ((tt, (tt, tt)), refl) (tt, refl) next.1)
    go false e next more = (more.0, byte {line = line} {next = pushed line c} {system = system} (eqb-false c line_feed e) ((tt, (tt, tt)), refl) more.1)

pub bench : Bench
bench = record {
  prints = λ n s p. rw (← s.1) (prints_from [] n.1 p);
  some = λ input. (empty, nothing, (some_from empty nothing input).0, (tt, refl), (tt, refl), (some_from empty nothing input).1);
  line_for_line = λ input. line_for_line (lines input) nothing;
  long = λ line h. long_bad line (omega arith);
}
