-- The bench: what it prints, byte by byte, is what the definitions say of the whole input. No contract can speak of what a
-- program reads and writes, so the steps of its loop (crates/bench) are written out here, each by the promise of the
-- function that it calls.
use Rattle.std.specs.Prelude.{None, ℕ, ◌<◌, ◌≡◌, ◌≢◌, Bool, true, false, List, [], ◌∷◌, ◌++◌, length}
use Rattle.chip.specs.declared.system.System.{System}
use Rattle.text.specs.Ascii.{line_feed}
use Rattle.text.specs.Text.{held}
use Rattle.text.specs.declared.Text.{Text}
use Rattle.lines.specs.Line.{meaning}
use Rattle.lines.specs.Turn.{lines, transcript}
use Rattle.lines.specs.declared.turn.Turn.{Turn}
use Rattle.demands.specs.Promises.{Returned}
use Rattle.chip.proofs.system.System.nothing as SystemNothing
use Rattle.text.proofs.Text.new as TextNew
use Rattle.text.proofs.Text.is_empty as TextIsEmpty
use Rattle.text.proofs.Text.push as TextPush
use Rattle.lines.proofs.turn.answer as turn_answer

-- each function that the loop calls, with these arguments and this result
abbrev pub Nothing : System → Type 0
Nothing system = Returned SystemNothing.Kinds.ps SystemNothing.Kinds.r SystemNothing.Reads.Post tt system

abbrev pub New : Text → Type 0
New line = Returned TextNew.Kinds.ps TextNew.Kinds.r TextNew.Reads.Post tt line

abbrev pub IsEmpty : Text → Bool → Type 0
IsEmpty line b = Returned TextIsEmpty.Kinds.ps TextIsEmpty.Kinds.r TextIsEmpty.Reads.Post (line, tt) b

abbrev pub Push : Text → (byte : ℕ) → Text → Type 0
Push line byte next = Returned TextPush.Kinds.ps TextPush.Kinds.r TextPush.Reads.Post (line, (byte, tt)) next

abbrev pub Answer : Text → System → Turn → Type 0
Answer line system turn = Returned turn_answer.Kinds.ps turn_answer.Kinds.r turn_answer.Reads.Post (line, (system, tt)) turn

-- with a line that has begun and a system, what is printed for the input that is left
pub data Prints : Text → System → (input printed : List ℕ) → Type 0 where
  byte : {line next : Text} {system : System} {c : ℕ} {input printed : List ℕ}
      → c ≢ line_feed → Push line c next → Prints next system input printed → Prints line system (c ∷ input) printed
  feed : {line next : Text} {system : System} {turn : Turn} {input printed : List ℕ}
      → Answer line system turn → New next → Prints next turn.system input printed
      → Prints line system (line_feed ∷ input) (held turn.text ++ printed)
  last : {line : Text} {system : System} {turn : Turn}
      → IsEmpty line false → Answer line system turn → Prints line system [] (held turn.text)
  end : {line : Text} {system : System} → IsEmpty line true → Prints line system [] []

pub record Bench : Type 0 where
  -- from an empty line and no system on, the transcript of the input, whatever the input
  pub prints : {line : Text} {system : System} {input printed : List ℕ}
      → New line → Nothing system → Prints line system input printed → printed ≡ transcript input
  -- and something is printed, whatever the input: the claim is not empty
  pub some : (input : List ℕ) → (line : Text) × (system : System) × (printed : List ℕ) × New line × Nothing system × Prints line system input printed
  -- one line for each line
  pub line_for_line : (input : List ℕ) → length (lines (transcript input)) ≡ length (lines input)
  -- any line above 16 bytes is bad
  pub long : (line : List ℕ) → 16 < length line → meaning line ≡ None
