-- What document 02 asks for beyond the demands, request by request, under its words. It is claimed of anything that keeps the promises.
use Rattle.std.specs.Prelude.{ℕ, ◌+◌, ◌*◌, ◌/◌, ◌≡◌, ◌≢◌, ◌↔◌, true, false, List, length}
use Rattle.masks.specs.Fields.{every}
use Rattle.descriptors.specs.Descriptor.{matches, match_answer, is_yes}
use Rattle.descriptors.specs.declared.descriptor.Descriptor.{Descriptor}
use Rattle.registers.specs.Unit.{word, ac}
use Rattle.registers.specs.Shared.{entry}
use Rattle.chip.specs.System.{unit}
use Rattle.chip.specs.Answer.{byte_read, mapped, violating, undefined, granted, first_of, miscounted}
use Rattle.chip.specs.declared.answer.Answer.TheVariants.{Done}
use Rattle.chip.specs.Segment.{sets, Accessed}
use Rattle.chip.specs.Reason.{Unmatched, Carried, MayCarry}
use Rattle.chip.specs.declared.call.Call.{Call}
use Rattle.pieces.specs.Pieces.{Bytes}
use Rattle.block.specs.Layout.{short, read}
use Rattle.image.specs.Block.{size, adds_up}
use Rattle.image.specs.Image.{form, blocks, from_block, system_of, could_satisfy_01, misfit, refusals}
use Rattle.cleftromi.specs.Interface.{cycle_by}
use Rattle.cleftromi.specs.Fields.{refusal, kind}
use Rattle.cleftromi.specs.Fields as field
use Rattle.demands.specs.Histories.{Access, Register, Save, Restore, Asks, Reached}
use Rattle.demands.specs.Demands.{AsStated, OneMatch, SameMarked, Translation}

-- the place of the descriptor that an answer names
abbrev pub place : (answer : ℕ) → ℕ
place answer = 32 * field.unit answer + field.descriptor answer

-- ---- P1. "Read-modify-write as one cycle", direction 2; of every block of bytes

pub record ReadModifyWriteCycle : Type 0 where
  -- "Undefined: one fault, RW 1, no write half": the answer and every byte are those of a read.
  pub undefined_reads : {function_code address answer read_answer : ℕ} {b after read_after : List ℕ} → Bytes b
      → Access function_code 2 address b answer after → kind answer ≡ undefined → Access function_code 0 address b read_answer read_after
      → (answer ≡ read_answer) × (after ≡ read_after)
  -- Otherwise it is "in place of 01's read and then write": the answer is the write's, and every byte is what both left.
  pub halves : {function_code address answer read_answer write_answer : ℕ} {b after read_after write_after : List ℕ} → Bytes b
      → Access function_code 2 address b answer after → kind answer ≢ undefined
      → Access function_code 0 address b read_answer read_after → Access function_code 1 address read_after write_answer write_after
      → (answer ≡ write_answer) × (after ≡ write_after)
  -- "On a protected segment: the read half succeeds and sets U (and IP if I) .. Else U and M, and IP if I." What an access leaves in the
  -- descriptors is the table `sets`, in each direction.
  pub gives_address : {function_code direction address answer : ℕ} {b after : List ℕ} → Bytes b
      → Access function_code direction address b answer after → kind answer ≡ mapped
      → Accessed (sets (cycle_by direction) false) (place answer) (read b) (read after)
  pub violates : {function_code direction address answer : ℕ} {b after : List ℕ} → Bytes b
      → Access function_code direction address b answer after → kind answer ≡ violating
      → Accessed (sets (cycle_by direction) true) (place answer) (read b) (read after)
  pub finds_nothing : {function_code direction address answer : ℕ} {b after : List ℕ} → Bytes b
      → Access function_code direction address b answer after → kind answer ≡ undefined → (read after).descriptors ≡ (read b).descriptors
  -- "other numbers mean what they did": a write, and in a register access 2 as well
  pub others_write : {function_code direction address answer write_answer : ℕ} {b after write_after : List ℕ} → direction ≢ 0 → direction ≢ 2
      → Access function_code direction address b answer after → Access function_code 1 address b write_answer write_after
      → (answer ≡ write_answer) × (after ≡ write_after)
  pub registers_write : {unit address direction value answer write_answer : ℕ} {b after write_after : List ℕ} → direction ≢ 0
      → Register unit address direction value b answer after → Register unit address 1 value b write_answer write_after
      → (answer ≡ write_answer) × (after ≡ write_after)

-- ---- P2. "End of shift image"

-- the count of units in a block, and an image of its length
abbrev pub units_in : (block : List ℕ) → ℕ
units_in b = (read b).shared.board.count

abbrev pub AsLong : (block image : List ℕ) → Type 0
AsLong b image = (miscounted (units_in b) ≡ false) × (length image ≡ size * units_in b)

pub record EndOfShiftImage : Type 0 where
  -- A granted save is done, with IRQ as it stands, leaves the state as it was, and the image is the state's; a granted restore is
  -- done, and leaves the state that the image holds.
  pub saves : {image saved : List ℕ} {answer : ℕ} {b after : List ℕ} → Bytes b → Save image saved b answer after → refusal answer ≡ 0
      → AsStated (granted Done (read b)) answer after × (saved ≡ form (read b))
  pub restores : {image : List ℕ} {answer : ℕ} {b after : List ℕ} → Restore image b answer after → refusal answer ≡ 0
      → AsStated (granted Done (system_of image)) answer after
  -- "For a state that meets 01, writing then reading gives the state": such a state is saved, and whatever was saved is restored
  pub meets_saved : {image saved : List ℕ} {answer : ℕ} {b after : List ℕ} → Bytes b → short b ≡ false → OneMatch b → SameMarked b
      → AsLong b image → Save image saved b answer after → refusal answer ≡ 0
  pub saved_restored : {image saved : List ℕ} {answer answer' : ℕ} {b after c after' : List ℕ} → Bytes b
      → Save image saved b answer after → refusal answer ≡ 0 → short c ≡ false → Restore saved c answer' after'
      → (refusal answer' ≡ 0) × (read after' ≡ read b)
  -- "reading an accepted image, then writing, gives the bytes"
  pub restored_saved : {image other saved : List ℕ} {answer answer' : ℕ} {b after after' : List ℕ}
      → Restore image b answer after → refusal answer ≡ 0 → length other ≡ length image → Save other saved after answer' after'
      → (refusal answer' ≡ 0) × (saved ≡ image)
  -- "Read back only what could satisfy 01": accepted exactly when the length fits, each block adds up, and the rules hold. In which
  -- order they decide is in `restore_refusals` (demand 1); that the state then meets 01 is demand 3, and `sound`.
  pub accepted_exactly : {image : List ℕ} {answer : ℕ} {b after : List ℕ} → short b ≡ false → Restore image b answer after
      → (refusal answer ≡ 0)
      ↔ ((misfit (length image) ≡ false) × (every (blocks image) (λ m. adds_up (from_block m image)) ≡ true) × (could_satisfy_01 image ≡ true))
  -- "writing a state that couldn't be read back is 10": exactly where its image would be refused, and by the same number
  pub refused_alike : {image saved : List ℕ} {answer : ℕ} {b after : List ℕ} → Bytes b → short b ≡ false → AsLong b image
      → Save image saved b answer after → refusal answer ≡ first_of (refusals (form (read b)))
  -- So a state that a history reaches is saved, and the block stays; and the restore of what was saved leaves the block as it was.
  pub reached_saved : {image saved : List ℕ} {answer : ℕ} {b after : List ℕ} → Reached b → length image ≡ size * units_in b
      → Save image saved b answer after → (refusal answer ≡ 0) × (after ≡ b)
  pub reached_restored : {image saved : List ℕ} {answer answer' : ℕ} {b after after' : List ℕ} → Reached b
      → Save image saved b answer after → refusal answer ≡ 0 → Restore saved b answer' after' → (refusal answer' ≡ 0) × (after' ≡ b)

-- ---- P4. "Why was it undefined?"; of every block of bytes

pub record WhyUndefined : Type 0 where
  -- "Yes and no stay": the match answer is yes exactly where the descriptor matches, as 01 has it,
  pub yes_stays : (d : Descriptor) (page number : ℕ) → is_yes (match_answer d page number) ≡ matches d page number
  -- so that an access is undefined, and a direct translation answers $FF, exactly where no descriptor of any unit matches.
  pub undefined_exactly : {function_code direction address answer : ℕ} {b after : List ℕ} → Bytes b
      → Access function_code direction address b answer after → refusal answer ≡ 0
      → (kind answer ≡ undefined) ↔ Unmatched (address / 256) (entry (read b).shared function_code) (read b)
  pub no_match_exactly : {m value answer : ℕ} {b after : List ℕ} → Bytes b → Translation m value b answer after → refusal answer ≡ 0
      → (field.byte answer ≡ 0xFF) ↔ Unmatched (word (unit (read b) m) 0) (ac (unit (read b) m) 6) (read b)
  -- "The undefined answer then carries the lowest unit and then descriptor whose space alone differed, if there is one .. bus access and
  -- direct translation pass the reason on", in every direction of an access.
  pub access_carries : {function_code direction address answer : ℕ} {b after : List ℕ} → Bytes b
      → Access function_code direction address b answer after → kind answer ≡ undefined
      → Carried (address / 256) (entry (read b).shared function_code) (read b) (field.near answer) (field.unit answer) (field.descriptor answer)
  pub translation_carries : {m value answer : ℕ} {b after : List ℕ} → Bytes b → Translation m value b answer after → refusal answer ≡ 0
      → field.byte answer ≡ 0xFF
      → Carried (word (unit (read b) m) 0) (ac (unit (read b) m) 6) (read b) (field.near answer) (field.unit answer) (field.descriptor answer)
  -- Beside it such an answer has what it had before: its kind and IRQ, and a direct translation its byte.
  pub access_else : {function_code direction address answer : ℕ} {b after : List ℕ} → Bytes b
      → Access function_code direction address b answer after → kind answer ≡ undefined
      → (refusal answer ≡ 0) × (field.win answer ≡ 0) × (field.byte answer ≡ 0) × (field.address answer ≡ 0)
  pub translation_else : {m value answer : ℕ} {b after : List ℕ} → Bytes b → Translation m value b answer after → refusal answer ≡ 0
      → (kind answer ≡ byte_read) × (field.win answer ≡ 0) × (field.address answer ≡ 0)
  -- No other answer carries one: not that of an address or of a write violation, of another register, of any other call.
  pub no_other : {c : Call} {answer : ℕ} {b after : List ℕ} → Bytes b → Asks c b answer after → field.near answer ≡ 1
      → MayCarry (kind answer) (field.byte answer) c
  pub save_carries_none : {image saved : List ℕ} {answer : ℕ} {b after : List ℕ} → Save image saved b answer after → field.near answer ≡ 0
  pub restore_carries_none : {image : List ℕ} {answer : ℕ} {b after : List ℕ} → Restore image b answer after → field.near answer ≡ 0
