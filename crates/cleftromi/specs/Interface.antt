-- What a call from C does to the lent block, and the number that it answers (docs/LAYOUTS.md).
use Rattle.std.specs.Prelude.{ℕ, Bool, cond, List, ◌∷◌, eqb, length, Option, Some, None}
use Rattle.chip.specs.Answer.{values, granted, first_of, numbered}
use Rattle.chip.specs.Call.{checks, carried_out}
use Rattle.cleftromi.specs.Fields.{number_of}
use Rattle.block.specs.Layout.{short, read, written}
use Rattle.image.specs.Image as image
use Rattle.image.specs.Image.{form, system_of}
use Rattle.chip.specs.declared.answer.Answer.TheVariants.{Done}
use Rattle.chip.specs.declared.answer.Outcome.{Outcome}
use Rattle.chip.specs.declared.access.Cycle.{Cycle}
use Rattle.chip.specs.declared.access.Cycle.TheVariants as cycle
use Rattle.chip.specs.declared.register.Operation.{Operation}
use Rattle.chip.specs.declared.register.Operation.TheVariants as operation
use Rattle.chip.specs.declared.call.Call.{Call}

-- The numbers that a host passes: a unit, or 255 for none; direction 0 reads, 2 is a read-modify-write of a bus access, any other
-- number writes
abbrev pub none : ℕ
none = 255

abbrev pub selected_by : (number : ℕ) → Option ℕ
selected_by number = cond (eqb number none) None (Some number)

abbrev pub cycle_by : (direction : ℕ) → Cycle
cycle_by direction = cond (eqb direction 0) cycle.Read (cond (eqb direction 2) cycle.ReadModifyWrite cycle.Write)

abbrev pub operation_by : (direction value : ℕ) → Operation
operation_by direction value = cond (eqb direction 0) operation.Read (operation.Write value)

-- what a call checks, in this order, each with its number: 7, the lent block is too short; then its own checks
abbrev pub refusals : Call → (block : List ℕ) → List (ℕ × Bool)
refusals call b = (7, short b) ∷ numbered (checks call (read b))

-- the answer, and what the block then holds: the refusal, and the block stays; or, where it is zero, an outcome's
abbrev pub told : (refusal : ℕ) → Outcome → ℕ
told refusal o = cond (eqb refusal 0) (number_of (values o.answer) o.irq) refusal

abbrev pub left : (refusal : ℕ) → Outcome → (block : List ℕ) → List ℕ
left refusal o b = cond (eqb refusal 0) (written b o.system) b

-- the first check that applies is the refusal; where none does the call is carried out
unfoldable pub answer : Call → (block : List ℕ) → ℕ
answer call b = told (first_of (refusals call b)) (carried_out call (read b))

unfoldable pub after : Call → (block : List ℕ) → List ℕ
after call b = left (first_of (refusals call b)) (carried_out call (read b)) b

-- ---- Document 02, P2. A save: what it checks, in this order; it is done, and leaves the state as it was
abbrev pub save_refusals : (block image : List ℕ) → List (ℕ × Bool)
save_refusals b i = (7, short b) ∷ image.save_refusals (length i) (read b)

unfoldable pub save_answer : (block image : List ℕ) → ℕ
save_answer b i = told (first_of (save_refusals b i)) (granted Done (read b))

unfoldable pub save_after : (block image : List ℕ) → List ℕ
save_after b i = left (first_of (save_refusals b i)) (granted Done (read b)) b

-- and the image holds the state
unfoldable pub save_image : (block image : List ℕ) → List ℕ
save_image b i = cond (eqb (first_of (save_refusals b i)) 0) (form (read b)) i

-- A restore: what it checks, in this order; it is done, and leaves the state that the image holds
abbrev pub restore_refusals : (block image : List ℕ) → List (ℕ × Bool)
restore_refusals b i = (7, short b) ∷ image.refusals i

unfoldable pub restore_answer : (block image : List ℕ) → ℕ
restore_answer b i = told (first_of (restore_refusals b i)) (granted Done (system_of i))

unfoldable pub restore_after : (block image : List ℕ) → List ℕ
restore_after b i = left (first_of (restore_refusals b i)) (granted Done (system_of i)) b
