-- What a save or a restore is refused by, and its number: document 02, P2.
use Rattle.std.specs.Prelude.{ℕ, Bool, List, Result, Ok, Err}
use Rattle.chip.specs.Answer.{numbered_by}
use Rattle.image.specs.declared.refusal.Refusal.{Refusal}
use Rattle.image.specs.declared.refusal.Refusal.TheVariants.{Count, Length, Check, Fields}

-- 1: document 01's, of the count; 8: the length; 9: "a block's check"; 10: "its fields"
abbrev pub number : Refusal → ℕ
number Count = 1
number Length = 8
number Check = 9
number Fields = 10

-- a table of checks by number
abbrev pub numbered : List (Refusal × Bool) → List (ℕ × Bool)
numbered = numbered_by number

-- and a result: zero, or the number of the refusal
abbrev pub by_number : {A : Type 0} → Result A Refusal → ℕ
by_number (Ok a) = 0
by_number (Err r) = number r
