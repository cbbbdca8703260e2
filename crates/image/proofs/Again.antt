-- A block that keeps its own rules and adds up is what is written of a system that has what the block reads as.
--     Reads           the system has what the block of unit m reads as
--     block_back      the block, from its parts: the bytes in front, the descriptors, the zeros, the check
-- Assumes nothing.
use Rattle.std.proofs.Common.{◌≡◌, ℕ, suc, ◌+◌, ◌-◌, ◌*◌, ◌/◌, ◌%◌, ◌^◌, ◌<◌, ◌≤◌, true, List, [], ◌∷◌, ◌++◌, length, get_or, take, drop, replicate, sym, refl, ap, ◌∙◌, ap₂, arith, length-drop, take-append-drop, length-take-le, get_or-drop, drop-drop, take-add, eqb-true}
use Rattle.masks.specs.Fields.{bit}
use Rattle.masks.proofs.Bits.{field_bits, field_cong}
use Rattle.pieces.specs.Pieces.{Bytes, list_of, pieces, join, high_first, high_first_at}
use Rattle.pieces.proofs.Bytes.{bytes_drop, word_fits}
use Rattle.pieces.proofs.Stores.{taken_listed, at_listed}
use Rattle.pieces.proofs.Parts.{pieces_alike}
use Rattle.descriptors.specs.Descriptor.{bytes}
use Rattle.registers.specs.Unit.{local, marked, accumulator_of, ac, held_lsr, marks as marks_of}
use Rattle.registers.specs.Shared.{gsr_byte}
use Rattle.chip.specs.System.{unit, descriptor}
use Rattle.registers.specs.declared.unit.Unit.{Unit}
use Rattle.registers.specs.declared.shared.Shared.{Shared}
use Rattle.chip.specs.declared.system.System.{System}
use Rattle.image.specs.Block.{size, count, accumulator, marks, place, words, adds_up, fields, check, block, shared_of, unit_of, descriptor_of}
use Rattle.image.proofs.Words.{words_front}
use Rattle.image.proofs.Cut.{cut_front, zeros_taken}
use Rattle.image.proofs.Owned.{Owned}

-- the two bytes of a word of two bytes
high_back : (high low : ℕ) → low < 2 ^ 8 → join high low / 256 ≡ high
high_back high low h = omega arith

low_back : (high low : ℕ) → low < 2 ^ 8 → join high low % 256 ≡ low
low_back high low h = omega arith

-- the check is the word with which the others add up to zero
check_is : (sum word : ℕ) → word < 2 ^ 16 → (sum + word) % 2 ^ 16 ≡ 0 → (2 ^ 16 - sum % 2 ^ 16) % 2 ^ 16 ≡ word
check_is sum word h e = omega arith

words_last : (n : ℕ) (b : List ℕ) → words (suc n) b ≡ words n b + high_first_at b (2 * n)
unfolding words
words_last n b = refl

-- the bytes in front of the descriptors
abbrev head : (m : ℕ) → Shared → Unit → List ℕ
head m h u =
    m ∷ h.board.count % 256 ∷ h.table
    ++ list_of 9 (ac u) ++ high_first (marks_of u) ++ u.dp ∷ h.ivr ∷ gsr_byte h.gsr ∷ held_lsr u ∷ u.rdp ∷ []

module _ (m : ℕ) (b : List ℕ) (h : Bytes b) (long : size ≤ length b) (o : Owned m b) where
  marks_again : marks_of (unit_of b) ≡ marks b
  unfolding marks_of unit_of accumulator_of
  marks_again =
      field_cong 9 _ (bit (marks b)) (λ i k. rw (at_listed (local 0) 9 (λ i. marked (get_or (accumulator b) i 0) (marks b) i) i k))
      ∙ field_bits 9 (marks b) o.nine_marks

  head_again : head m (shared_of b) (unit_of b) ≡ take 34 b
  unfolding shared_of unit_of accumulator_of
  head_again =
      let small : count b % 256 ≡ count b = omega (arith, h 1) in
      rw (taken_listed 0 34 b (omega arith), ← o.is_number, small, marks_again, o.gsr_back, o.lsr_back) (simp (high_back, low_back))

  descriptor_again : (n : ℕ) → n < 32 → bytes (descriptor_of n b) ≡ take 9 (drop (place n) b)
  unfolding descriptor_of
  descriptor_again n l =
      let d = drop (place n) b in
      let k : Bytes d = bytes_drop (place n) b h in
      rw (taken_listed 0 9 d (simp length-drop (omega arith))) (simp (high_back, low_back))

  zeros_again : replicate 188 0 ≡ take 188 (drop 322 b)
  zeros_again = zeros_taken 188 (drop 322 b) (simp length-drop (omega arith)) (λ i l. rw get_or-drop (o.rest i l))

  check_again : adds_up b ≡ true → high_first (check (take 510 b)) ≡ take 2 (drop 510 b)
  check_again e =
      let front = words_front 255 (take 510 b) (drop 510 b) (omega (arith, length-take-le 510 b (omega arith))) in
      let same : words 255 (take 510 b) ≡ words 255 b = sym (rw (take-append-drop 510 b) at front) in
      let sum = rw (words_last 255 b) at (eqb-true (words 256 b % 2 ^ 16) 0 e) in
      rw (
        same,
        check_is (words 255 b) (high_first_at b 510) (word_fits (h 511) (h 510)) sum,
        taken_listed 0 2 (drop 510 b) (simp length-drop (omega arith)),
      )
      (simp (high_back, low_back, get_or-drop))

-- a system that has what the block of unit m reads as
pub record Reads (s : System) (m : ℕ) (b : List ℕ) : Type 0 where
  pub its_shared : s.shared ≡ shared_of b
  pub its_unit : unit s m ≡ unit_of b
  pub its_descriptor : (n : ℕ) → n < 32 → descriptor s (32 * m + n) ≡ descriptor_of n b

module _ (s : System) (m : ℕ) (b : List ℕ) (h : Bytes b) (long : size ≤ length b) (o : Owned m b) (r : Reads s m b) where
  descriptors_back : pieces 32 (λ n. bytes (descriptor s (32 * m + n))) ≡ take 288 (drop 34 b)
  descriptors_back =
      pieces_alike 32 _ (λ n. take 9 (drop (9 * n) (drop 34 b)))
      (λ n l. rw (drop-drop (9 * n) 34 b) (ap bytes (r.its_descriptor n l) ∙ descriptor_again m b h long o n l))
      ∙ cut_front 9 32 (drop 34 b)

  fields_back : fields s m ≡ take 510 b
  unfolding fields
  fields_back =
      let front = ap₂ (head m) r.its_shared r.its_unit ∙ head_again m b h long o in
      let most = ap₂ (λ (p q : List ℕ). p ++ q) front descriptors_back ∙ sym (take-add 34 288 b) in
      ap₂ (λ (p q : List ℕ). p ++ q) most (zeros_again m b h long o) ∙ sym (take-add 322 188 b)

  pub block_back : adds_up b ≡ true → block s m ≡ take size b
  unfolding block
  block_back e =
      ap (λ (f : List ℕ). f ++ high_first (check f)) fields_back
      ∙ ap (λ (c : List ℕ). take 510 b ++ c) (check_again m b h long o e)
      ∙ sym (take-add 510 2 b)
