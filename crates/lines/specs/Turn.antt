-- The bench: a line in, a line out, and the whole of what it prints.
use Rattle.std.specs.Prelude.{ℕ, cond, List, [], ◌∷◌, ◌++◌, eqb, Option, Some, None}
use Rattle.text.specs.Ascii.{line_feed}
use Rattle.text.specs.Text.{text}
use Rattle.chip.specs.Answer.{values}
use Rattle.chip.specs.Call.{performed}
use Rattle.chip.specs.Reset.{nothing}
use Rattle.chip.specs.declared.system.System.{System}
use Rattle.lines.specs.Line.{meaning}
use Rattle.lines.specs.Print.{printed, bad}
use Rattle.chip.specs.declared.call.Call.{Call}
use Rattle.lines.specs.declared.turn.Turn.{Turn}

-- what is printed for a line, and the system after it: a bad line changes nothing
abbrev pub told : Option Call → System → List ℕ
told (Some c) s = printed (values (performed c s).answer) (performed c s).irq
told None s = bad

abbrev pub left : Option Call → System → System
left (Some c) s = (performed c s).system
left None s = s

abbrev pub turn : Option Call → System → Turn
turn c s = record { text = text (told c s); system = left c s }

-- the lines of an input: each ends with a line feed, which the last may lack
abbrev pub longer : (byte : ℕ) → List (List ℕ) → List (List ℕ)
longer c [] = (c ∷ []) ∷ []
longer c (l ∷ ls) = (c ∷ l) ∷ ls

abbrev pub lines : (input : List ℕ) → List (List ℕ)
lines [] = []
lines (c ∷ input) = cond (eqb c line_feed) ([] ∷ lines input) (longer c (lines input))

-- one line is printed for each
abbrev pub answers : List (List ℕ) → System → List ℕ
answers [] s = []
answers (l ∷ ls) s = told (meaning l) s ++ answers ls (left (meaning l) s)

-- before a good start the count is 0
abbrev pub transcript : (input : List ℕ) → List ℕ
transcript input = answers (lines input) nothing
