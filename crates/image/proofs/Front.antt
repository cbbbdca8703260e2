-- A block is its first 512 bytes: what stands behind them changes nothing that is read or tested of it.
--     checks_front, shared_front, same_front, unit_front, descriptor_front
--     table_front, across_front, system_front     so an image is what its blocks are, cut out
-- Assumes nothing.
use Rattle.std.proofs.Common.{◌≡◌, ℕ, zero, suc, ◌+◌, ◌*◌, ◌/◌, ◌%◌, ◌<◌, ◌≤◌, eqb, List, [], ◌∷◌, length, get_or, take, refl, ap, ap₂, arith, lit<, get_or-drop}
use Rattle.std.proofs.lemmas.List.{get_or-take}
use Rattle.std.specs.Simd.{first_chunks}
use Rattle.masks.specs.Fields.{every}
use Rattle.pieces.specs.Pieces.{pieces}
use Rattle.pieces.proofs.Parts.{pieces_alike}
use Rattle.chip.specs.System.{each}
use Rattle.chip.specs.Reset.{nothing}
use Rattle.image.specs.Block.{size, words, ssr, reserved, shared_of, unit_of, descriptor_of}
use Rattle.image.specs.Rules.{allowed, own, same_shared}
use Rattle.image.specs.Image.{blocks, from_block, block_at, system_of, system_in, block_checks, checks_at}
use Rattle.image.proofs.Listed.{every_alike}
use Rattle.image.proofs.Chunks.{length_chunks, chunk_at}

module _ (b : List ℕ) where
  at : (i : ℕ) → i < size → get_or (take size b) i 0 ≡ get_or b i 0
  at i l = get_or-take size b i 0 l

  words_front : (n : ℕ) → 2 * n ≤ size → words n (take size b) ≡ words n b
  unfolding words
  words_front zero h = refl
  words_front (suc n) h = rw (words_front n (omega arith), at (2 * n) (omega arith), at (2 * n + 1) (omega arith)) refl

  own_front : (m : ℕ) → own m (take size b) ≡ own m b
  unfolding own
  own_front m =
      rw (
        every_alike 32 (λ n. allowed (ssr n (take size b))) (λ n. allowed (ssr n b)) (λ n l. ap (λ x. allowed x) (at (34 + 9 * n + 7) (omega arith))),
        every_alike 188 (λ i. eqb (reserved (take size b) i) 0) (λ i. eqb (reserved b i) 0) (λ i l. ap (λ x. eqb x 0) (at (322 + i) (omega arith))),
      ) (grind (arith, at))

  pub checks_front : (n m : ℕ) → block_checks n m (take size b) ≡ block_checks n m b
  checks_front n m = rw (words_front 256 (omega arith), own_front m, at 1 (lit< tt)) refl

  pub unit_front : unit_of (take size b) ≡ unit_of b
  unfolding unit_of
  unit_front = grind (arith, at)

  pub shared_front : shared_of (take size b) ≡ shared_of b
  unfolding shared_of
  shared_front = grind (arith, at)

  pub descriptor_front : (n : ℕ) → n < 32 → descriptor_of n (take size b) ≡ descriptor_of n b
  unfolding descriptor_of
  descriptor_front n l = simp get_or-drop (grind (arith, at))

pub same_front : (a b : List ℕ) → same_shared (take size a) (take size b) ≡ same_shared a b
unfolding same_shared
same_front a b =
    rw (every_alike 16 (λ i. eqb (get_or (take size a) (2 + i) 0) (get_or (take size b) (2 + i) 0)) (λ i. eqb (get_or a (2 + i) 0) (get_or b (2 + i) 0))
    (λ i l. ap₂ (λ x y. eqb x y) (at a (2 + i) (omega arith)) (at b (2 + i) (omega arith))))
    (grind (arith, at))

each_alike : {A : Type 0} (n : ℕ) (f g : ℕ → A → A) (xs : List A) → ((k : ℕ) (x : A) → k < n → f k x ≡ g k x) → each n f xs ≡ each n g xs
unfolding each
each_alike zero f g xs h = refl
each_alike (suc n) f g [] h = refl
each_alike (suc n) f g (x ∷ xs) h =
    ap₂ (λ y ys. y ∷ ys) (h 0 x (omega arith)) (each_alike n (λ i. f (suc i)) (λ i. g (suc i)) xs (λ k x l. h (suc k) x (omega arith)))

-- ---- an image, cut into its blocks
module _ (image : List ℕ) where
  abbrev pub cut_out : List (List ℕ)
  cut_out = first_chunks size (blocks image) image

  pub length_out : length cut_out ≡ blocks image
  length_out = length_chunks size (blocks image) image

  one : (m : ℕ) → m < blocks image → block_at cut_out m ≡ take size (from_block m image)
  one m l = chunk_at size (blocks image) m image l

  first : 0 < blocks image → block_at cut_out 0 ≡ take size image
  first l = one 0 l

  pub table_front : pieces (length cut_out) (λ m. block_checks (length cut_out) m (block_at cut_out m)) ≡ pieces (blocks image) (checks_at image)
  table_front =
      rw length_out
      (pieces_alike (blocks image) (λ m. block_checks (blocks image) m (block_at cut_out m)) (checks_at image)
      (λ m l. rw (one m l) (checks_front (from_block m image) (blocks image) m)))

  pub across_front : 0 < blocks image → every (length cut_out) (λ m. same_shared (block_at cut_out 0) (block_at cut_out m))
      ≡ every (blocks image) (λ m. same_shared image (from_block m image))
  across_front some =
      rw length_out
      (every_alike (blocks image) (λ m. same_shared (block_at cut_out 0) (block_at cut_out m)) (λ m. same_shared image (from_block m image))
      (λ m l. rw (first some, one m l) (same_front image (from_block m image))))

  pub system_front : 0 < blocks image → system_in cut_out ≡ system_of image
  unfolding system_in system_of
  system_front some =
      let n = blocks image in
      rw (
        length_out,
        each_alike (32 * n) (λ k d. descriptor_of (k % 32) (block_at cut_out (k / 32))) (λ k d. descriptor_of (k % 32) (from_block (k / 32) image)) nothing.descriptors
            (λ k x l. rw (one (k / 32) (omega arith)) (descriptor_front (from_block (k / 32) image) (k % 32) (omega arith))),
        each_alike n (λ m u. unit_of (block_at cut_out m)) (λ m u. unit_of (from_block m image)) nothing.units
            (λ m x l. rw (one m l) (unit_front (from_block m image))),
        first some,
        shared_front image,
      ) refl
