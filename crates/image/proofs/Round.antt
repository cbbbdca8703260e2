-- What is written is read again: the image of a system in clean form, of one to six units.
--     length_form      512 bytes for each unit
--     system_back      it reads as the system
--     form_refusal     it breaks no rule but those of `sound`: refused as 10 where the system breaks one of them, accepted otherwise
-- Assumes nothing.
use Rattle.std.proofs.Common.{◌≡◌, ℕ, suc, ◌+◌, ◌*◌, ◌/◌, ◌%◌, ◌^◌, ◌<◌, ◌≤◌, Bool, true, false, cond, not, ◌&&◌, ◌||◌, eqb, List, [], ◌∷◌, ◌++◌, length, drop, replicate, sym, refl, ap, ◌∙◌, append_assoc, append-nil, arith, get_or-drop, drop-drop, get_or-append-add, le-ltb, eq-eqb, ne_eqb, Ok}
use lib.ListN.{length-replicate, get_or-append}
use lib.Seq.{get_or_at}
use Rattle.masks.specs.Fields.{bit, every, field}
use Rattle.masks.proofs.Bits.{every_at, field_fits}
use Rattle.pieces.specs.Pieces.{list_of, pieces, high_first}
use Rattle.pieces.proofs.Bytes.{word_back}
use Rattle.pieces.proofs.Parts.{length_pieces, pieces_at}
use Rattle.pieces.proofs.Stores.{everywhere, listed_as}
use Rattle.descriptors.specs.Status.{clean}
use Rattle.descriptors.specs.Descriptor.{bytes, zeros}
use Rattle.descriptors.specs.Clean.{CleanDescriptor}
use Rattle.descriptors.proofs.Clean.{status_fits}
use Rattle.registers.specs.Unit.{byte, rdp_of, ac, marks as marks_of, held_lsr, no_unit}
use Rattle.registers.specs.Shared.{entry, gsr_byte}
use Rattle.registers.specs.Clean.{CleanUnit, CleanShared}
use Rattle.registers.proofs.Numbers.{small, rdp_fits}
use Rattle.registers.proofs.Back.{held_l, held_rw, gsr_back, accumulator_back}
use Rattle.chip.specs.System.{present, unit, descriptor}
use Rattle.chip.specs.Reset.{blank}
use Rattle.chip.specs.Answer.{passed}
use Rattle.chip.specs.Clean.{Clean}
use Rattle.chip.proofs.Each.{filled_is}
use Rattle.descriptors.specs.declared.descriptor.Descriptor.{Descriptor}
use Rattle.chip.specs.declared.system.System.{System}
use Rattle.image.specs.Block.{size, number, count, rdp, place, ssr, reserved, words, adds_up, fields, check, block}
use Rattle.image.specs.Block.{shared_of, unit_of, descriptor_of}
use Rattle.image.specs.Rules.{clear, registers_clear, nvr_alone, allowed, own, same_shared, sound}
use Rattle.image.specs.Image.{form, blocks, from_block, system_of, across, misfit, checks_at, refusal}
use Rattle.image.proofs.Words.{words_front, length_fields, length_block}
use Rattle.image.proofs.Checked.{none_of_pieces}
use Rattle.image.proofs.Accepted.{refusal_across}
use Rattle.image.proofs.Refused.{none_in_blocks}

pub length_form : (s : System) → length s.shared.table ≡ 16 → length (form s) ≡ 512 * present s
unfolding form
length_form s h = length_pieces 512 (block s) (λ m. length_block s m h) (present s)

-- ---- A block by its parts

-- the bytes before the descriptors, with this table
head_of : System → (m : ℕ) (table : List ℕ) → List ℕ
head_of s m table =
    let h = s.shared in
    let u = unit s m in
    m ∷ h.board.count % 256 ∷ table
    ++ list_of 9 (ac u) ++ high_first (marks_of u) ++ u.dp ∷ h.ivr ∷ gsr_byte h.gsr ∷ held_lsr u ∷ u.rdp ∷ []

-- with the system's own, byte by byte: so each byte of the head computes from its place
head : System → (m : ℕ) → List ℕ
head s m = head_of s m (list_of 16 (entry s.shared))

nine_bytes : System → (m n : ℕ) → List ℕ
nine_bytes s m n = bytes (descriptor s (32 * m + n))

nine_back : (d : Descriptor) (n : ℕ) (b r : List ℕ) → drop (place n) b ≡ bytes d ++ r → descriptor_of n b ≡ d
unfolding descriptor_of
nine_back d n b r e = rw (e, word_back d.lba, word_back d.lam, word_back d.pba)

-- what holds of each byte that f leaves as it is, tried at every byte
kept_bytes : (f : ℕ → ℕ) (p : ℕ → Bool) → every 256 (λ x. not (eqb (f x) x) || p x) ≡ true
    → (x : ℕ) → x < 2 ^ 8 → f x ≡ x → p x ≡ true
kept_bytes f p e x h q = rw (eq-eqb (f x) x q) at ((every_at 256 (λ x. not (eqb (f x) x) || p x)).0 e x h)

clean_allowed : (x : ℕ) → clean x ≡ x → allowed x ≡ true
unfolding every clean field bit
clean_allowed x e = kept_bytes clean allowed refl x (status_fits x e) e

rdp_allowed : (x : ℕ) → rdp_of x ≡ x → clear 5 2 x && nvr_alone x ≡ true
unfolding every bit
rdp_allowed x e = kept_bytes rdp_of (λ x. clear 5 2 x && nvr_alone x) refl x (rdp_fits x e) e

-- the word after those in front
words_more : (n : ℕ) (p r : List ℕ) (x : ℕ) → length p ≡ 2 * n → words (suc n) (p ++ (high_first x ++ r)) ≡ words n p + x
unfolding words
words_more n p r x e =
    rw (
      words_front n p (high_first x ++ r) (omega arith),
      ← e,
      get_or_at p (x / 256) (x % 256 ∷ r) 0 (length p) refl,
      get_or-append-add p (high_first x ++ r) 1 0,
      word_back x,
    )

-- Unit m's block, and the bytes that follow it
module _ (s : System) (table : length s.shared.table ≡ 16) (m : ℕ) (r : List ℕ) where
  after : List ℕ
  after = high_first (check (fields s m)) ++ r

  laid : block s m ++ r ≡ head s m ++ (pieces 32 (nine_bytes s m) ++ (replicate 188 0 ++ after))
  unfolding block fields head head_of nine_bytes after
  laid =
      let rest : List ℕ = pieces 32 (nine_bytes s m) ++ (replicate 188 0 ++ after) in
      let parts : block s m ++ r ≡ head_of s m s.shared.table ++ rest = rw (append_assoc, append_assoc, append_assoc) in
      parts ∙ ap (λ (t : List ℕ). head_of s m t ++ rest) (sym (listed_as 0 16 s.shared.table table))

  -- ---- what is read
  number_back : number (block s m ++ r) ≡ m
  unfolding block fields
  number_back = refl

  count_back : s.shared.board.count < 2 ^ 8 → count (block s m ++ r) ≡ s.shared.board.count
  unfolding block fields
  count_back h = omega arith

  shared_back : CleanShared s.shared → shared_of (block s m ++ r) ≡ s.shared
  unfolding shared_of head head_of
  shared_back c =
      let one_byte : s.shared.board.count % 256 ≡ s.shared.board.count = omega (arith, c.count) in
      rw (laid, listed_as 0 16 s.shared.table table, gsr_back s.shared.gsr, one_byte)

  unit_back : CleanUnit (unit s m) → unit_of (block s m ++ r) ≡ unit s m
  unfolding unit_of head head_of
  unit_back c =
      let u = unit s m in
      rw (laid, word_back (marks_of u), accumulator_back u c.bytes, held_l u c.l, held_rw u)

  descriptor_back : (n : ℕ) → n < 32 → descriptor_of n (block s m ++ r) ≡ descriptor s (32 * m + n)
  unfolding head head_of nine_bytes
  descriptor_back n h =
      let at = pieces_at 9 (nine_bytes s m) (λ n. refl) 32 n (replicate 188 0 ++ after) h in
      nine_back (descriptor s (32 * m + n)) n (block s m ++ r) at.0
      (sym (drop-drop (9 * n) 34 (block s m ++ r)) ∙ rw laid at.1)

  reserved_back : (i : ℕ) → i < 188 → reserved (block s m ++ r) i ≡ 0
  unfolding head head_of nine_bytes
  reserved_back i h =
      let ds : List ℕ = pieces 32 (nine_bytes s m) in
      let t : List ℕ = replicate 188 0 ++ after in
      let before : length (head s m ++ ds) ≡ 322 = omega (arith, length_pieces 9 (nine_bytes s m) (λ n. refl) 32) in
      rw (laid, ← append_assoc (head s m) ds t, ← before, get_or-append-add (head s m ++ ds) t i 0)
      (get_or-append (replicate 188 0) after 0 i (rw length-replicate h) ∙ everywhere 188 i 0)

  -- ---- the block's own rules
  registers_pass : CleanUnit (unit s m) → registers_clear (block s m ++ r) && nvr_alone (rdp (block s m ++ r)) ≡ true
  unfolding head head_of marks_of
  registers_pass c =
      let u = unit s m in
      let g = s.shared.gsr in
      rw (
        laid,
        word_back (marks_of u),
        eq-eqb (marks_of u / 2 ^ 9 % 2 ^ 7) 0 (omega (arith, field_fits 9 (λ i. (byte u i).global))),
        eq-eqb (u.dp / 2 ^ 5 % 2 ^ 3) 0 (omega (arith, c.dp)),
        eq-eqb (gsr_byte g / 2 ^ 1 % 2 ^ 5) 0 (omega (arith, small g.f, small g.df, small g.ie)),
        eq-eqb (held_lsr u / 2 ^ 0 % 2 ^ 3) 0 (omega (arith, small u.rw)),
      ) (rdp_allowed u.rdp c.rdp)

  status_passes : (n : ℕ) → n < 32 → CleanDescriptor (descriptor s (32 * m + n)) → allowed (ssr n (block s m ++ r)) ≡ true
  unfolding descriptor_of
  status_passes n h c =
      rw (← get_or-drop (place n) (block s m ++ r) 7 0, ap (λ (d : Descriptor). d.ssr) (descriptor_back n h))
      (clean_allowed (descriptor s (32 * m + n)).ssr c.ssr)

  own_passes : CleanUnit (unit s m) → ((n : ℕ) → n < 32 → CleanDescriptor (descriptor s (32 * m + n)))
      → own m (block s m ++ r) ≡ true
  unfolding own
  own_passes c d =
      let b : List ℕ = block s m ++ r in
      rw (
        eq-eqb (number b) m number_back,
        registers_pass c,
        (every_at 32 (λ n. allowed (ssr n b))).1 (λ n h. status_passes n h (d n h)),
        (every_at 188 (λ i. eqb (reserved b i) 0)).1 (λ i h. eq-eqb (reserved b i) 0 (reserved_back i h)),
      )

  check_passes : adds_up (block s m ++ r) ≡ true
  unfolding block
  check_passes =
      let p : List ℕ = fields s m in
      rw (append_assoc p (high_first (check p)) r, words_more 255 p r (check p) (length_fields s m table))
      (eq-eqb ((words 255 p + check p) % 2 ^ 16) 0 (omega arith))

same : (x : ℕ) → eqb x x ≡ true
same x = eq-eqb x x refl

-- two units' blocks have the same table, GSR and IVR
shared_same : (s : System) → length s.shared.table ≡ 16 → (m k : ℕ) (r t : List ℕ)
    → same_shared (block s m ++ r) (block s k ++ t) ≡ true
unfolding same_shared every head head_of
shared_same s table m k r t = rw (laid s table m r, laid s table k t) (simp same)

-- ---- The image of a system in clean form, of one to six units
module _ (s : System) (c : Clean s) (some : 1 ≤ s.shared.board.count) (few : s.shared.board.count ≤ 6) where
  table : length s.shared.table ≡ 16
  table = c.shared.entries

  blocks_form : blocks (form s) ≡ present s
  blocks_form = omega (arith, length_form s table)

  -- block m, and some bytes after it
  stands : (m : ℕ) → m < present s → (r : List ℕ) × (from_block m (form s) ≡ block s m ++ r)
  unfolding form
  stands m h =
      let at = pieces_at 512 (block s) (λ m. length_block s m table) (present s) m [] h in
      (at.0, rw append-nil at at.1)

  first : (r : List ℕ) × (form s ≡ block s 0 ++ r)
  first = stands 0 (omega arith)

  -- ---- what is read
  unit_at : (m : ℕ) → m < present s → unit_of (from_block m (form s)) ≡ unit s m
  unit_at m h = let at = stands m h in rw at.1 (unit_back s table m at.0 (c.units m h))

  descriptor_at : (i : ℕ) → i < 32 * present s → descriptor_of (i % 32) (from_block (i / 32) (form s)) ≡ descriptor s i
  descriptor_at i h =
      let at = stands (i / 32) (omega arith) in
      let whole : 32 * (i / 32) + i % 32 ≡ i = omega arith in
      rw at.1 (descriptor_back s table (i / 32) at.0 (i % 32) (omega arith) ∙ ap (descriptor s) whole)

  pub system_back : system_of (form s) ≡ s
  unfolding system_of
  system_back =
      rw (
        blocks_form,
        filled_is zeros (32 * present s) 192 (λ i. descriptor_of (i % 32) (from_block (i / 32) (form s))) zeros s.descriptors
            c.places.1 (λ i h k. descriptor_at i h) (λ i h k. sym (c.no_descriptor i h k)),
        filled_is no_unit (present s) 6 (λ m. unit_of (from_block m (form s))) blank s.units c.places.0
            (λ m h k. unit_at m h) (λ m h k. sym (c.no_unit m h k)),
        first.1,
        shared_back s table 0 first.0 c.shared,
      )

  -- ---- which rules it can break
  fits : misfit (length (form s)) ≡ false
  fits =
      let long = length_form s table in
      rw (
        eq-eqb (length (form s) % size) 0 (omega arith),
        ne_eqb (length (form s) / size) 0 (omega arith),
        le-ltb 6 (length (form s) / size) (omega arith),
      )

  block_passes : (m : ℕ) → m < present s → passed (checks_at (form s) m) ≡ Ok tt
  block_passes m h =
      let at = stands m h in
      let counted = count_back s table m at.0 c.shared.count in
      rw (
        at.1,
        check_passes s table m at.0,
        own_passes s table m at.0 (c.units m h) (λ n l. c.descriptors (32 * m + n) (omega arith)),
        blocks_form,
        eq-eqb (count (block s m ++ at.0)) (present s) (omega arith),
      )

  shared_passes : (m : ℕ) → m < present s → same_shared (form s) (from_block m (form s)) ≡ true
  shared_passes m h = let at = stands m h in rw (at.1, first.1) (shared_same s table 0 m first.0 at.0)

  across_form : across (form s) ≡ sound s
  unfolding across
  across_form =
      rw (blocks_form, (every_at (present s) (λ m. same_shared (form s) (from_block m (form s)))).1 shared_passes, system_back)

  pub form_refusal : refusal (form s) ≡ cond (not (sound s)) 10 0
  form_refusal =
      refusal_across (form s) fits (none_in_blocks (form s) (rw blocks_form ((none_of_pieces (checks_at (form s)) (present s)).1 block_passes)))
      ∙ ap (λ (b : Bool). cond (not b) 10 0) across_form
