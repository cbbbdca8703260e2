-- The answers, and document 01's number and values for each: "Numbers the host gets back".
use Rattle.std.specs.Prelude.{ℕ, Bool, true, false, not, ◌||◌, cond, List, [], ◌∷◌, map, eqb, ltb, Option, Some, None, Result, Ok, Err, ⊤}
use Rattle.chip.specs.Search.{irq}
use Rattle.chip.specs.declared.system.System.{System}
use Rattle.chip.specs.declared.answer.Refusal.{Refusal}
use Rattle.chip.specs.declared.answer.Refusal.TheVariants.{Count, Unit, Register, FunctionCode, Address, Interrupt}
use Rattle.chip.specs.declared.answer.Answer.{Answer}
use Rattle.chip.specs.declared.answer.Answer.TheVariants.{Refused, Done, Byte, Mapped, Violation, Undefined}
use Rattle.chip.specs.declared.answer.Values.{Values}
use Rattle.chip.specs.declared.answer.Outcome.{Outcome}
use Rattle.chip.specs.declared.answer.Reading.{Reading}
use Rattle.chip.specs.declared.search.Place.{Place}

-- the number of a refusal
abbrev pub number : Refusal → ℕ
number Count = 1
number Unit = 2
number Register = 3
number FunctionCode = 4
number Address = 5
number Interrupt = 6

-- the kinds of an answer that is no refusal, by number: a start, a reset or a register write is done;
-- a byte is read; an access is mapped, a write violation, or undefined
abbrev pub done : ℕ
done = 1

abbrev pub byte_read : ℕ
byte_read = 2

abbrev pub mapped : ℕ
mapped = 3

abbrev pub violating : ℕ
violating = 4

abbrev pub undefined : ℕ
undefined = 5

-- An answer as numbers, column by column.
abbrev pub row : (number kind address unit descriptor : ℕ) (win near : Bool) (byte : ℕ) → Values
row number kind address unit descriptor win near byte =
    record { number = number; kind = kind; address = address; unit = unit; descriptor = descriptor; win = win; near = near; byte = byte }

-- an answer of this kind, with no other value
abbrev pub of_kind : (kind : ℕ) → Values
of_kind kind = row 0 kind 0 0 0 false false 0

-- and this unit and descriptor
abbrev pub at_place : (kind : ℕ) → Place → Values
at_place kind place = row 0 kind 0 place.unit place.descriptor false false 0

-- document 02, P4: the unit and the descriptor that are near, and whether there is one; and an answer of this kind that carries them
abbrev pub named_by : Option Place → ℕ × ℕ × Bool
named_by (Some place) = (place.unit, place.descriptor, true)
named_by None = (0, 0, false)

abbrev pub carrying : (kind : ℕ) → Option Place → (byte : ℕ) → Values
carrying kind near byte = let n = named_by near in row 0 kind 0 n.0 n.1 false n.2 byte

-- The table: the number of the refusal or zero, the kind, and the values of an answer; what a kind does not have is zero.
abbrev pub values : Answer → Values
values (Refused r) = row (number r) 0 0 0 0 false false 0
values Done = of_kind done
values (Byte b near) = carrying byte_read near b
values (Mapped a p w) = row 0 mapped a p.unit p.descriptor w false 0
values (Violation p w) = row 0 violating 0 p.unit p.descriptor w false 0
values (Undefined near) = carrying undefined near 0

-- a refusal: every other field is zero, the state is unchanged
unfoldable pub refused : Refusal → System → Outcome
refused r s = record { answer = Refused r; irq = false; system = s }

-- any other answer gives IRQ as it stands after the call
unfoldable pub granted : Answer → System → Outcome
granted a s = record { answer = a; irq = irq s; system = s }

-- a read that answers this byte and leaves this system; no reason goes with it
abbrev pub reading : (byte : ℕ) → System → Reading
reading byte s = record { byte = byte; near = None; system = s }

-- the checks of a call in their order, each a refusal and when it is given: the first that applies
-- decides, and where none does the call goes on
abbrev pub checked : List (Refusal × Bool) → System → Outcome → Outcome
checked [] s o = o
checked (c ∷ cs) s o = cond c.1 (refused c.0 s) (checked cs s o)

-- a table of checks over any refusals: the refusal of the first that applies, or a where none does; and whether all are passed
abbrev pub decided : {R A : Type 0} → List (R × Bool) → A → Result A R
decided [] a = Ok a
decided (c ∷ cs) a = cond c.1 (Err c.0) (decided cs a)

abbrev pub passed : {R : Type 0} → List (R × Bool) → Result ⊤ R
passed cs = decided cs tt

-- a table of refusals by number, each with when it is given: the first that applies, or zero
abbrev pub first_of : (rows : List (ℕ × Bool)) → ℕ
first_of [] = 0
first_of (row ∷ rows) = cond row.1 row.0 (first_of rows)

-- the checks as such a table, by the numbers of their refusals
abbrev pub numbered_by : {R : Type 0} → (number : R → ℕ) → List (R × Bool) → List (ℕ × Bool)
numbered_by {R} number = map (λ (c : R × Bool). (number c.0, c.1))

abbrev pub numbered : List (Refusal × Bool) → List (ℕ × Bool)
numbered = numbered_by number

-- 1: the count is 0 or above 6
abbrev pub miscounted : (count : ℕ) → Bool
miscounted count = eqb count 0 || ltb 6 count

-- 2: the unit number is not below the count
abbrev pub absent : (unit count : ℕ) → Bool
absent unit count = not (ltb unit count)
