-- The end of shift image: document 02, P2. One block for each unit; they stand in order, and block n starts at byte 512 times n.
use Rattle.std.specs.Prelude.{ℕ, ◌*◌, ◌/◌, ◌%◌, Bool, cond, not, ◌&&◌, ◌||◌, List, [], ◌∷◌, ◌++◌, length, drop, slice_index_or, ◌==◌, Result, ⊤}
use Rattle.masks.specs.Fields.{every}
use Rattle.pieces.specs.Pieces.{pieces}
use Rattle.chip.specs.System.{present, each}
use Rattle.chip.specs.Reset.{nothing}
use Rattle.chip.specs.Answer.{decided, passed, first_of, miscounted}
use Rattle.chip.specs.declared.system.System.{System}
use Rattle.image.specs.Block.{size, adds_up, block, shared_of, unit_of, descriptor_of}
use Rattle.image.specs.Rules.{own, counted, same_shared, sound}
use Rattle.image.specs.Refusals.{numbered}
use Rattle.image.specs.declared.refusal.Refusal.{Refusal}
use Rattle.image.specs.declared.refusal.Refusal.TheVariants.{Count, Length, Check, Fields}

-- ---- Writing: the image of a system
unfoldable pub form : System → List ℕ
form s = pieces (present s) (block s)

-- ---- Reading: how many blocks there are, and the bytes from block m on
abbrev pub blocks : (image : List ℕ) → ℕ
blocks i = length i / size

abbrev pub from_block : (m : ℕ) (image : List ℕ) → List ℕ
from_block m i = drop (size * m) i

-- the system in them
unfoldable pub system_of : (image : List ℕ) → System
system_of i =
    let n = blocks i in
    record {
      descriptors = each (32 * n) (λ k d. descriptor_of (k % 32) (from_block (k / 32) i)) nothing.descriptors;
      units = each n (λ m u. unit_of (from_block m i)) nothing.units;
      shared = shared_of i;
    }

-- the same, of an image that is cut into its blocks; block m of them
abbrev pub block_at : (blocks : List (List ℕ)) (m : ℕ) → List ℕ
block_at bs m = slice_index_or bs m []

unfoldable pub system_in : (blocks : List (List ℕ)) → System
system_in bs = record {
  descriptors = each (32 * length bs) (λ k d. descriptor_of (k % 32) (block_at bs (k / 32))) nothing.descriptors;
  units = each (length bs) (λ m u. unit_of (block_at bs m)) nothing.units;
  shared = shared_of (block_at bs 0);
}

-- the rules across blocks
unfoldable pub across : (image : List ℕ) → Bool
across i = every (blocks i) (λ m. same_shared i (from_block m i)) && sound (system_of i)

-- "Read back only what could satisfy 01": each block's own rules, then the rules across blocks
unfoldable pub could_satisfy_01 : (image : List ℕ) → Bool
could_satisfy_01 i = every (blocks i) (λ m. own m (from_block m i) && counted (blocks i) (from_block m i)) && across i

-- ---- Refusals. 8: "length not 512 times 1 to 6"
abbrev pub misfit : (bytes : ℕ) → Bool
misfit bytes = not (bytes % size == 0) || miscounted (bytes / size)

-- 9: "a block's check", 10: "its fields"; 9 before 10
abbrev pub block_checks : (blocks m : ℕ) (block : List ℕ) → List (Refusal × Bool)
block_checks n m b = (Check, not (adds_up b)) ∷ (Fields, not (own m b && counted n b)) ∷ []

-- those of block m of an image
abbrev pub checks_at : (image : List ℕ) (m : ℕ) → List (Refusal × Bool)
checks_at i m = block_checks (blocks i) m (from_block m i)

-- "first bad block decides, .. clash and cross-unit rules last as 10"
unfoldable pub checks : (image : List ℕ) → List (Refusal × Bool)
checks i = (Length, misfit (length i)) ∷ pieces (blocks i) (checks_at i) ++ (Fields, not (across i)) ∷ []

-- by number; an image is accepted where none of these applies
abbrev pub refusals_at : (image : List ℕ) (m : ℕ) → List (ℕ × Bool)
refusals_at i m = numbered (checks_at i m)

unfoldable pub refusals : (image : List ℕ) → List (ℕ × Bool)
refusals i = numbered (checks i)

abbrev pub refusal : (image : List ℕ) → ℕ
refusal i = first_of (refusals i)

-- what reading it gives: the system, or the refusal
unfoldable pub restored : (image : List ℕ) → Result System Refusal
restored i = decided (checks i) (system_of i)

-- ---- "writing a state that couldn't be read back is 10": the checks of a save, after document 01's on the count
abbrev pub save_checks : (bytes : ℕ) → System → List (Refusal × Bool)
save_checks bytes s =
    (Count, miscounted s.shared.board.count) ∷ (Length, not (bytes == size * s.shared.board.count)) ∷ (Fields, not (sound s)) ∷ []

-- what a save gives, and its refusal by number
unfoldable pub saving : (bytes : ℕ) → System → Result ⊤ Refusal
saving bytes s = passed (save_checks bytes s)

abbrev pub save_refusals : (bytes : ℕ) → System → List (ℕ × Bool)
save_refusals bytes s = numbered (save_checks bytes s)

abbrev pub save_refusal : (bytes : ℕ) → System → ℕ
save_refusal bytes s = first_of (save_refusals bytes s)

-- what the lent bytes then hold
unfoldable pub saved : (image : List ℕ) → System → List ℕ
saved i s = cond (save_refusal (length i) s == 0) (form s) i
