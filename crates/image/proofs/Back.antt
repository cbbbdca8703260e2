-- What is read from an accepted image is a system as every call keeps it, and is written again to the same bytes.
--     accepted_clean          the system is in clean form
--     accepted_back           its written form is the image
--     accepted_length         its length is that of the system's image
--     accepted_invariants     it has one to six units, its enabled descriptors are apart, and its marked bytes agree
-- Assumes nothing.
use Rattle.std.proofs.Common.{◌≡◌, ℕ, ◌+◌, ◌*◌, ◌/◌, ◌%◌, ◌<◌, ◌≤◌, true, eqb, List, length, get_or, take, sym, ◌∙◌, arith, length-drop, eqb-true}
use mathlib.Core.Bool.{and-eq-true_iff}
use Rattle.masks.proofs.Bits.{every_at}
use Rattle.pieces.specs.Pieces.{Bytes}
use Rattle.pieces.proofs.Bytes.{bytes_drop}
use Rattle.pieces.proofs.Stores.{listed_alike}
use Rattle.pieces.proofs.Parts.{pieces_alike}
use Rattle.descriptors.specs.Descriptor.{zeros}
use Rattle.descriptors.specs.Clean.{CleanDescriptor}
use Rattle.registers.specs.Unit.{no_unit}
use Rattle.registers.specs.Clean.{CleanUnit}
use Rattle.chip.specs.System.{present, unit, descriptor}
use Rattle.chip.specs.Reset.{blank}
use Rattle.chip.specs.Clean.{Clean}
use Rattle.chip.proofs.Each.{filled_below, filled_past, length_filled}
use Rattle.chip.proofs.Invariants.{Invariants}
use Rattle.descriptors.specs.declared.descriptor.Descriptor.{Descriptor}
use Rattle.registers.specs.declared.unit.Unit.{Unit}
use Rattle.image.specs.Block.{size, count, ivr, gsr, block, shared_of, unit_of, descriptor_of}
use Rattle.image.specs.Rules.{same_shared}
use Rattle.image.specs.Image.{form, blocks, from_block, system_of, refusal}
use Rattle.image.proofs.Accepted.{Accepted, accepted}
use Rattle.image.proofs.Sound.{sound_law}
use Rattle.image.proofs.Cut.{cut}
use Rattle.image.proofs.Owned.{Owned, owned, shared_clean, unit_clean, descriptor_clean}
use Rattle.image.proofs.Again.{Reads, block_back}

-- what all units share is the same in two blocks
shared_same : (a b : List ℕ) → same_shared a b ≡ true → count a ≡ count b → shared_of a ≡ shared_of b
unfolding same_shared shared_of
shared_same a b e c =
    let all = simp and-eq-true_iff at e in
    let entries = (every_at 16 (λ i. eqb (get_or a (2 + i) 0) (get_or b (2 + i) 0))).0 all.0.0 in
    let tables = listed_alike 16 (λ i. get_or a (2 + i) 0) (λ i. get_or b (2 + i) 0) (λ i l. eqb-true _ _ (entries i l)) in
    let gsrs : gsr a ≡ gsr b = eqb-true _ _ all.0.1 in
    let ivrs : ivr a ≡ ivr b = eqb-true _ _ all.1 in
    cc

module _ (image : List ℕ) (h : Bytes image) (a : Accepted image) where
  first_count : count image ≡ blocks image
  first_count = a.counts 0 a.sized.some

  present_is : present (system_of image) ≡ blocks image
  unfolding system_of shared_of
  present_is = omega (arith, first_count, a.sized.few)

  bytes_at : (m : ℕ) → Bytes (from_block m image)
  bytes_at m = bytes_drop (size * m) image h

  owned_at : (m : ℕ) → m < blocks image → Owned m (from_block m image)
  owned_at m l = owned m (from_block m image) (bytes_at m) (a.owns m l)

  unit_at : (m : ℕ) → m < blocks image → unit (system_of image) m ≡ unit_of (from_block m image)
  unfolding system_of
  unit_at m l = filled_below no_unit (blocks image) 6 (λ m. unit_of (from_block m image)) blank m l (omega (arith, a.sized.few))

  descriptor_at : (i : ℕ) → i < 32 * blocks image → descriptor (system_of image) i ≡ descriptor_of (i % 32) (from_block (i / 32) image)
  unfolding system_of
  descriptor_at i l =
      filled_below zeros (32 * blocks image) 192 (λ i. descriptor_of (i % 32) (from_block (i / 32) image)) zeros i l (omega (arith, a.sized.few))

  reads : (m : ℕ) → m < blocks image → Reads (system_of image) m (from_block m image)
  unfolding system_of
  reads m l = record {
    its_shared = shared_same image (from_block m image) (a.shares m l) (first_count ∙ sym (a.counts m l));
    its_unit = unit_at m l;
    its_descriptor = λ n k.
        let there : (32 * m + n) / 32 ≡ m = omega arith in
        let which : (32 * m + n) % 32 ≡ n = omega arith in
        rw (there, which) at (descriptor_at (32 * m + n) (omega arith));
  }

  units_clean : (m : ℕ) → m < present (system_of image) → CleanUnit (unit (system_of image) m)
  units_clean m k =
      let l : m < blocks image = rw present_is at k in
      rw (unit_at m l) (unit_clean _ (bytes_at m) m (owned_at m l))

  descriptors_clean : (i : ℕ) → i < 32 * present (system_of image) → CleanDescriptor (descriptor (system_of image) i)
  descriptors_clean i k =
      let l : i < 32 * blocks image = rw present_is at k in
      let there : i / 32 < blocks image = omega arith in
      rw (descriptor_at i l) (descriptor_clean _ (bytes_at (i / 32)) (i / 32) (i % 32) (omega arith) (owned_at (i / 32) there))

  system_clean : Clean (system_of image)
  unfolding system_of shared_of
  system_clean =
      let n = blocks image in
      let u : ℕ → Unit = λ m. unit_of (from_block m image) in
      let d : ℕ → Descriptor = λ i. descriptor_of (i % 32) (from_block (i / 32) image) in
      record {
        shared = shared_clean image h;
        places = (length_filled no_unit n 6 u blank, length_filled zeros (32 * n) 192 d zeros);
        units = units_clean;
        descriptors = descriptors_clean;
        no_unit = λ m k q. filled_past no_unit n 6 u blank m (omega (arith, present_is)) q;
        no_descriptor = λ i k q. filled_past zeros (32 * n) 192 d zeros i (omega (arith, present_is)) q;
      }

  form_back : form (system_of image) ≡ image
  unfolding form
  form_back =
      rw present_is (pieces_alike (blocks image) (block (system_of image)) (λ m. take size (from_block m image)) one
      ∙ cut size (blocks image) image a.sized.whole)
    where
      one : (m : ℕ) → m < blocks image → block (system_of image) m ≡ take size (from_block m image)
      one m l =
          let long : size ≤ length (from_block m image) = simp length-drop (omega (arith, a.sized.whole)) in
          block_back (system_of image) m (from_block m image) (bytes_at m) long (owned_at m l) (reads m l) (a.checks m l)

module _ (image : List ℕ) (h : Bytes image) (e : refusal image ≡ 0) where
  pub accepted_clean : Clean (system_of image)
  accepted_clean = system_clean image h (accepted image e)

  pub accepted_back : form (system_of image) ≡ image
  accepted_back = form_back image h (accepted image e)

  pub accepted_invariants : Invariants (system_of image)
  unfolding system_of shared_of
  accepted_invariants =
      let a = accepted image e in
      let both = (sound_law (system_of image) accepted_clean).0 a.sounds in
      record { clean = accepted_clean; counted = rw (first_count image h a) a.sized.counted; apart = both.1; agreed = both.0 }

  -- its length is that of the system's image
  pub accepted_length : length image ≡ size * (system_of image).shared.board.count
  unfolding system_of shared_of
  accepted_length = let a = accepted image e in rw (first_count image h a) a.sized.whole
