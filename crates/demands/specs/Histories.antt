-- The calls from C, and the blocks that can be reached by them: from a granted start, reset or restore, by any calls, as long as
-- nothing else writes the state.
use Rattle.std.specs.Prelude.{ℕ, ◌≡◌, List, [], ◌∷◌, take}
use Rattle.std.specs.Int.{w8, w64}
use Rattle.chip.specs.declared.call.Call.{Call}
use Rattle.chip.specs.declared.call.Call.TheVariants as call
use Rattle.pieces.specs.Pieces.{Bytes}
use Rattle.block.specs.Layout.{size}
use Rattle.cleftromi.specs.Interface.{selected_by, cycle_by, operation_by}
use Rattle.cleftromi.specs.Fields.{refusal}
use Rattle.demands.specs.Promises.{Parameter, lent, shown, number, Called}
use Rattle.cleftromi.proofs.cleftromi_start as cleftromi_start
use Rattle.cleftromi.proofs.cleftromi_reset as cleftromi_reset
use Rattle.cleftromi.proofs.cleftromi_access as cleftromi_access
use Rattle.cleftromi.proofs.cleftromi_register as cleftromi_register
use Rattle.cleftromi.proofs.cleftromi_acknowledge as cleftromi_acknowledge
use Rattle.cleftromi.proofs.cleftromi_save as cleftromi_save
use Rattle.cleftromi.proofs.cleftromi_restore as cleftromi_restore

-- a call, by the bytes that it finds in the block, its answer, and the bytes that it leaves there. A function whose promise is not
-- over its arguments (one that is lent a record) has a definition over plain values for it, and that is its step
abbrev pub Step : Type 1
Step = (before : List ℕ) (answer : ℕ) (after : List ℕ) → Type 0

abbrev state : Parameter 1
state = lent 0 tt

-- each of the five that take numbers alone, called with these
abbrev pub Start : (units selected : ℕ) → Step
Start units selected b answer after =
    Called (state ∷ number w64 ∷ number w64 ∷ []) cleftromi_start.Reads.Post (b, (units, (selected, tt))) answer (after, tt)

abbrev pub Reset : (selected : ℕ) → Step
Reset selected b answer after = Called (state ∷ number w64 ∷ []) cleftromi_reset.Reads.Post (b, (selected, tt)) answer (after, tt)

abbrev pub Access : (function_code direction address : ℕ) → Step
Access function_code direction address b answer after =
    Called (state ∷ number w64 ∷ number w64 ∷ number w64 ∷ []) cleftromi_access.Reads.Post
    (b, (function_code, (direction, (address, tt)))) answer (after, tt)

abbrev pub Register : (unit address direction value : ℕ) → Step
Register unit address direction value b answer after =
    Called (state ∷ number w64 ∷ number w64 ∷ number w64 ∷ number w8 ∷ []) cleftromi_register.Reads.Post
    (b, (unit, (address, (direction, (value, tt))))) answer (after, tt)

abbrev pub Acknowledge : (unit : ℕ) → Step
Acknowledge unit b answer after = Called (state ∷ number w64 ∷ []) cleftromi_acknowledge.Reads.Post (b, (unit, tt)) answer (after, tt)

-- a save, which finds this image and leaves that one; and a restore of this image, whose bytes are bytes, as `&[u8]` has it
abbrev pub Save : (image saved : List ℕ) → Step
Save image saved b answer after = Called {n = 2} (lent 0 tt ∷ lent 1 tt ∷ []) cleftromi_save.Reads.Post (b, (image, tt)) answer (after, (saved, tt))

abbrev pub Restore : (image : List ℕ) → Step
Restore image b answer after =
    Bytes image × Called {n = 2} (lent 0 tt ∷ shown 1 tt ∷ []) cleftromi_restore.Reads.Post (b, (image, tt)) answer (after, tt)

-- a call of any of the five, with any numbers, and what it asks for
pub data Asks : Call → (before : List ℕ) (answer : ℕ) (after : List ℕ) → Type 0 where
  start : {units selected answer : ℕ} {b after : List ℕ} → Start units selected b answer after
      → Asks (call.Start units (selected_by selected)) b answer after
  reset : {selected answer : ℕ} {b after : List ℕ} → Reset selected b answer after → Asks (call.Reset (selected_by selected)) b answer after
  access : {function_code direction address answer : ℕ} {b after : List ℕ} → Access function_code direction address b answer after
      → Asks (call.Access function_code (cycle_by direction) address) b answer after
  register : {unit address direction value answer : ℕ} {b after : List ℕ} → Register unit address direction value b answer after
      → Asks (call.Register unit address (operation_by direction value)) b answer after
  acknowledge : {unit answer : ℕ} {b after : List ℕ} → Acknowledge unit b answer after → Asks (call.Acknowledge unit) b answer after

-- a call of any of them all
pub data Calls : (before : List ℕ) (answer : ℕ) (after : List ℕ) → Type 0 where
  asks : {c : Call} {answer : ℕ} {b after : List ℕ} → Asks c b answer after → Calls b answer after
  saves : {image saved : List ℕ} {answer : ℕ} {b after : List ℕ} → Save image saved b answer after → Calls b answer after
  restores : {image : List ℕ} {answer : ℕ} {b after : List ℕ} → Restore image b answer after → Calls b answer after

pub data Reached : List ℕ → Type 0 where
  started : {units selected answer : ℕ} {before after : List ℕ} → Start units selected before answer after → refusal answer ≡ 0 → Reached after
  was_reset : {selected answer : ℕ} {before after : List ℕ} → Reset selected before answer after → refusal answer ≡ 0 → Reached after
  restored : {image : List ℕ} {answer : ℕ} {before after : List ℕ} → Restore image before answer after → refusal answer ≡ 0 → Reached after
  called : {answer : ℕ} {before after : List ℕ} → Reached before → Calls before answer after → Reached after
  -- the state is the first 4,096 bytes: how many are lent, and what is past them, is the host's
  lent_anew : {before after : List ℕ} → Reached before → take size after ≡ take size before → Reached after
