-- The demands, each under the user's words. What is claimed is claimed of anything that keeps the promises of the functions for C.
use Rattle.std.specs.Prelude.{ℕ, ◌*◌, ◌/◌, ◌^◌, ◌<◌, ◌≡◌, ◌≢◌, ◌↔◌, Bool, true, false, ◌||◌, List, eqb, Option}
use Rattle.masks.specs.Fields.{bit}
use Rattle.descriptors.specs.Status.{E}
use Rattle.descriptors.specs.Descriptor.{enabled, pending, matches}
use Rattle.registers.specs.Unit.{byte, ac, word, segment, flag}
use Rattle.chip.specs.System.{present, unit, descriptor, pointed}
use Rattle.chip.specs.Search.{matching, irq}
use Rattle.chip.specs.Answer.{values, violating, undefined, first_of}
use Rattle.chip.specs.Call.{performed}
use Rattle.chip.specs.Clean.{Clean}
use Rattle.chip.specs.Load.{Collision}
use Rattle.chip.specs.Event.{Event, Left, Lowest}
use Rattle.chip.specs.Event as event
use Rattle.chip.specs.declared.answer.Outcome.{Outcome}
use Rattle.chip.specs.declared.call.Call.{Call}
use Rattle.pieces.specs.Pieces.{Bytes}
use Rattle.block.specs.Layout.{short, read, written}
use Rattle.cleftromi.specs.Interface.{refusals, save_refusals, restore_refusals}
use Rattle.cleftromi.specs.Fields.{refusal, kind, Fields}
use Rattle.cleftromi.specs.Fields as field
use Rattle.demands.specs.Histories.{Step, Access, Register, Save, Restore, Asks, Reached}

-- how many places a block has
abbrev pub places : (block : List ℕ) → ℕ
places b = 32 * present (read b)

-- ---- Demand 1

-- a refusal is given exactly when the table says; it is its number and nothing else, and leaves every byte
pub record RefusedBy (rows : List (ℕ × Bool)) (before : List ℕ) (answer : ℕ) (after : List ℕ) : Type 0 where
  pub exactly : refusal answer ≡ first_of rows
  pub alone : refusal answer ≢ 0 → answer ≡ refusal answer
  pub unchanged : refusal answer ≢ 0 → after ≡ before

-- "A bad unit, register, function code or address gets a numbered refusal, and state and every lent byte are then as before
-- the call."
pub record Demand1 : Type 0 where
  pub refused : {c : Call} {answer : ℕ} {b after : List ℕ} → Asks c b answer after → RefusedBy (refusals c b) b answer after
  -- a save and a restore likewise, and a refused save leaves every byte of the image too
  pub save_refused : {image saved : List ℕ} {answer : ℕ} {b after : List ℕ} → Save image saved b answer after
      → RefusedBy (save_refusals b image) b answer after × (refusal answer ≢ 0 → saved ≡ image)
  pub restore_refused : {image : List ℕ} {answer : ℕ} {b after : List ℕ} → Restore image b answer after
      → RefusedBy (restore_refusals b image) b answer after

-- ---- Demand 2

-- each field of the answer has the outcome's value, and the block then reads as the outcome's system
pub record AsStated (o : Outcome) (answer : ℕ) (after : List ℕ) : Type 0 where
  pub fields : Fields (values o.answer) o.irq answer
  pub registers : read after ≡ o.system

-- "Every bus access, register access, acknowledge and reset gives the answer, and leaves the registers, that the handbook and 01
-- state, for one to six units": on any bytes and any numbers; a block that is too short is demand 1's
pub record Demand2 : Type 0 where
  pub stated : {c : Call} {answer : ℕ} {b after : List ℕ} → Bytes b → short b ≡ false → Asks c b answer after
      → AsStated (performed c (read b)) answer after
  -- 01: "An answer gives IRQ as it stands after the call."
  pub irq_after : {c : Call} {answer : ℕ} {b after : List ℕ} → Bytes b → Asks c b answer after → refusal answer ≡ 0
      → field.irq answer ≡ flag (irq (read after))

-- ---- Demand 3

-- a load is a register read of $3F
abbrev pub Load : (unit value : ℕ) → Step
Load unit value = Register unit 0x3F 0 value

-- all of an answer above IRQ: WIN, unit, descriptor, byte and physical address
abbrev pub above_irq : (answer : ℕ) → ℕ
above_irq answer = answer / 2 ^ field.WIN

-- no two enabled descriptors in any units match the same logical address and address space number
abbrev pub OneMatch : (block : List ℕ) → Type 0
OneMatch b =
    (page number i j : ℕ) → page < 2 ^ 16 → number < 2 ^ 8 → i < places b → j < places b
    → matches (descriptor (read b) i) page number ≡ true → matches (descriptor (read b) j) page number ≡ true → i ≡ j

pub record Demand3 : Type 0 where
  -- "From a granted start or reset on, after any calls, as long as nothing else writes the state, no two enabled descriptors
  -- in any units match the same logical address and address space number." Since 02, P2: "from a granted start, reset or restore on".
  pub one_match : {b : List ℕ} → Reached b → OneMatch b
  -- The other two sentences have no "from a granted start or reset on": they are claimed of every block of bytes.
  -- "A load that asks to be enabled, in a call with no numbered refusal, is refused exactly when some address and number
  -- exist that it and another enabled descriptor would both match."
  pub refused_exactly : {m value answer : ℕ} {b after : List ℕ} → Bytes b → Load m value b answer after → refusal answer ≡ 0
      → bit (ac (unit (read b) m) 7) E ≡ true
      → (field.byte answer ≡ 0xFF) ↔ Collision (segment (unit (read b) m)) (pointed m (read b)) (read b)
  -- and otherwise it is enabled
  pub else_enabled : {m value answer : ℕ} {b after : List ℕ} → Bytes b → Load m value b answer after → refusal answer ≡ 0
      → bit (ac (unit (read b) m) 7) E ≡ true → field.byte answer ≢ 0xFF
      → (field.byte answer ≡ 0x00) × (enabled (descriptor (read after) (pointed m (read b))) ≡ true)
  -- "A load into a disabled descriptor, granted or refused, changes no physical address and no write violation that an access
  -- would have had just before it: it can only give an answer where the access was undefined."
  pub harmless : {m value loaded : ℕ} {b after : List ℕ} → Bytes b → Load m value b loaded after
      → enabled (descriptor (read b) (pointed m (read b))) ≡ false
      → {function_code direction address answer later : ℕ} {left finally : List ℕ}
      → Access function_code direction address b answer left → Access function_code direction address after later finally
      → kind answer ≢ undefined
      → (refusal later ≡ refusal answer) × (kind later ≡ kind answer) × (above_irq later ≡ above_irq answer)

-- ---- No stale neighbour

-- bytes of the accumulator that are marked in two units are equal
abbrev pub SameMarked : (block : List ℕ) → Type 0
SameMarked b =
    (i m k : ℕ) → m < present (read b) → k < present (read b)
    → (byte (unit (read b) m) i).global ≡ true → (byte (unit (read b) k) i).global ≡ true
    → ac (unit (read b) m) i ≡ ac (unit (read b) k) i

-- "a status register that is right in one unit and stale in its neighbour"
pub record Sound (b : List ℕ) : Type 0 where
  pub marked : SameMarked b
  -- IP only with E
  pub pending : (i : ℕ) → i < places b → pending (descriptor (read b) i) ≡ true → enabled (descriptor (read b) i) ≡ true
  -- every register within its bits, and no other bit set in the block
  pub within : Clean (read b)
  pub form : written b (read b) ≡ b

-- every unit's L4-L7, RDP and RW are those of the event: in the unit concerned, and in each that has no part in it; and F and DF
abbrev pub Leaves : Event → (before after : List ℕ) → Type 0
Leaves e b after = Left e (read b) (read after)

-- a direct translation is a register read of $3D
abbrev pub Translation : (unit value : ℕ) → Step
Translation unit value = Register unit 0x3D 0 value

pub record NoStaleNeighbour : Type 0 where
  pub sound : {b : List ℕ} → Reached b → Sound b
  -- after each call that is a fault, a load or a direct translation, in every block of bytes
  pub violation : {function_code direction address answer : ℕ} {b after : List ℕ} → Bytes b
      → Access function_code direction address b answer after → kind answer ≡ violating
      → Leaves (event.write_violation (field.unit answer) (field.descriptor answer)) b after
  pub undefined : {function_code direction address answer : ℕ} {b after : List ℕ} → Bytes b
      → Access function_code direction address b answer after → kind answer ≡ undefined
      → Leaves (event.undefined_access (eqb direction 0 || eqb direction 2)) b after
  pub granted_load : {m value answer : ℕ} {b after : List ℕ} → Bytes b → Load m value b answer after → refusal answer ≡ 0
      → field.byte answer ≢ 0xFF → Leaves event.load_granted b after
  pub refused_load : {m value answer : ℕ} {b after : List ℕ} → Bytes b → Load m value b answer after → refusal answer ≡ 0
      → field.byte answer ≡ 0xFF
      → (lowest : ℕ → Option ℕ) × ((k : ℕ) → Lowest (segment (unit (read b) m)) (pointed m (read b)) k (read b) (lowest k))
      × Leaves (event.load_refused lowest) b after
  pub translation : {m value answer : ℕ} {b after : List ℕ} → Bytes b → Translation m value b answer after → refusal answer ≡ 0
      → Leaves (event.translation (matching (word (unit (read b) m) 0) (ac (unit (read b) m) 6) (read b))) b after
