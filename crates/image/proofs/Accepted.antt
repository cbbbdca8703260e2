-- When an image is accepted, and which refusal decides where it is not.
--     well_sized       a length that is 512 times 1 to 6
--     refusal_length, refusal_block, refusal_across      the refusal, by the first of the rules that is broken
--     accepted_exactly      there is none exactly when the length fits, each block adds up, and the image could satisfy 01
--     accepted         what that says of each block, and of the system
-- Assumes nothing.
use Rattle.std.proofs.Common.{◌≡◌, ℕ, ◌*◌, ◌/◌, ◌%◌, ◌^◌, ◌<◌, ◌≤◌, Bool, true, false, cond, not, ◌&&◌, ◌||◌, eqb, ltb, ◌≢◌, ◌↔◌, List, [], ◌∷◌, ◌++◌, length, refl, ap, true≢false, arith, eqb-true, Ok, Err}
use mathlib.Core.Bool.{and-eq-true_iff}
use borrow.Author.Tests.{eqb-false, not-false}
use Rattle.masks.specs.Fields.{every}
use Rattle.masks.proofs.Bits.{every_at}
use Rattle.pieces.specs.Pieces.{pieces}
use Rattle.chip.specs.Answer.{passed, first_of, miscounted}
use Rattle.chip.proofs.Counts.{well_counted}
use Rattle.image.specs.Block.{size, count, adds_up}
use Rattle.image.specs.Rules.{own, counted, same_shared, sound}
use Rattle.image.specs.Image.{blocks, from_block, system_of, across, could_satisfy_01, misfit, checks_at, checks, refusals_at, refusals, refusal}
use Rattle.image.specs.declared.refusal.Refusal.{Refusal}
use Rattle.image.specs.declared.refusal.Refusal.TheVariants.{Length, Check, Fields}
use Rattle.image.proofs.Checked.{past_check, none_of_both, none_of_pieces}
use Rattle.image.proofs.Refused.{first_fits, first_past, first_stays, numbered_proper, none_by_number, proper_blocks, refusals_are}

either : (a b : Bool) → a || b ≡ false → (a ≡ false) × (b ≡ false)
either true b e = absurd (true≢false e)
either false b e = (refl, e)

pub record WellSized (bytes : ℕ) : Type 0 where
  pub counted : miscounted (bytes / size) ≡ false
  pub some : 1 ≤ bytes / size
  pub few : bytes / size ≤ 6
  pub whole : bytes ≡ size * (bytes / size)

pub well_sized : (bytes : ℕ) → misfit bytes ≡ false → WellSized bytes
well_sized bytes e =
    let both = either (not (eqb (bytes % size) 0)) (miscounted (bytes / size)) e in
    let whole : bytes % size ≡ 0 = eqb-true (bytes % size) 0 (not-false _ both.0) in
    let none : bytes / size ≢ 0 = eqb-false _ _ (either (eqb (bytes / size) 0) (ltb 6 (bytes / size)) both.1).0 in
    record { counted = both.1; some = omega arith; few = well_counted _ both.1; whole = omega arith }

module _ (image : List ℕ) where
  -- a refusal is a byte
  pub refusal_fits : refusal image < 2 ^ 8
  unfolding refusals
  refusal_fits = first_fits (refusals image) (numbered_proper (checks image))

  pub refusal_length : misfit (length image) ≡ true → refusal image ≡ 8
  refusal_length e = rw (refusals_are image, e) refl

  pub refusal_block : misfit (length image) ≡ false → first_of (pieces (blocks image) (refusals_at image)) ≢ 0
      → refusal image ≡ first_of (pieces (blocks image) (refusals_at image))
  refusal_block e n = rw (refusals_are image, e) (first_stays (pieces (blocks image) (refusals_at image)) _ n)

  pub refusal_across : misfit (length image) ≡ false → first_of (pieces (blocks image) (refusals_at image)) ≡ 0
      → refusal image ≡ cond (not (across image)) 10 0
  refusal_across e z =
      rw (refusals_are image, e)
      (first_past (pieces (blocks image) (refusals_at image)) ((10, not (across image)) ∷ []) (proper_blocks image) z)

-- ---- acceptance
module _ (image : List ℕ) where
  -- what a block's two rows test
  abbrev check : (m : ℕ) → Bool
  check m = adds_up (from_block m image)

  abbrev fields : (m : ℕ) → Bool
  fields m = own m (from_block m image) && counted (blocks image) (from_block m image)

  block_passes : (m : ℕ) → (passed (checks_at image m) ≡ Ok tt) ↔ ((check m ≡ true) × (fields m ≡ true))
  block_passes m =
      let first = past_check Check (not (check m)) (cond (not (fields m)) (Err Fields) (Ok tt)) in
      let second = past_check Fields (not (fields m)) (Ok tt) in (
        λ e. (not-false _ (first.0 e).0, not-false _ (second.0 (first.0 e).1).0),
        λ h. first.1 (ap not h.0, second.1 (ap not h.1, refl)),
      )

  blocks_pass : (passed (pieces (blocks image) (checks_at image)) ≡ Ok tt)
      ↔ ((every (blocks image) check ≡ true) × (every (blocks image) fields ≡ true))
  blocks_pass =
      let all = none_of_pieces (checks_at image) (blocks image) in
      let checks = every_at (blocks image) check in
      let fits = every_at (blocks image) fields in (
        λ e. (checks.1 (λ m h. ((block_passes m).0 (all.0 e m h)).0), fits.1 (λ m h. ((block_passes m).0 (all.0 e m h)).1)),
        λ h. all.1 (λ m l. (block_passes m).1 (checks.0 h.0 m l, fits.0 h.1 m l)),
      )

  pub accepted_exactly : (refusal image ≡ 0)
      ↔ ((misfit (length image) ≡ false) × (every (blocks image) (λ m. adds_up (from_block m image)) ≡ true) × (could_satisfy_01 image ≡ true))
  unfolding could_satisfy_01 refusals checks
  accepted_exactly =
      let rows = pieces (blocks image) (checks_at image) in
      let last : List (Refusal × Bool) = (Fields, not (across image)) ∷ [] in
      let none = none_by_number (checks image) in
      let fit = past_check Length (misfit (length image)) (passed (rows ++ last)) in
      let two = none_of_both rows last in
      let end = past_check Fields (not (across image)) (Ok tt) in
      let both = and-eq-true_iff (every (blocks image) fields) (across image) in (
        λ e.
            let first = fit.0 (none.0 e) in
            let rest = two.0 first.1 in
            let pass = blocks_pass.0 rest.0 in
            (first.0, pass.0, both.1 (pass.1, not-false _ (end.0 rest.1).0)),
        λ h.
            let could = both.0 h.2 in
            none.1 (fit.1 (h.0, two.1 (blocks_pass.1 (h.1, could.0), end.1 (ap not could.1, refl)))),
      )

-- what follows for each block, and for the system
pub record Accepted (image : List ℕ) : Type 0 where
  pub sized : WellSized (length image)
  pub checks : (m : ℕ) → m < blocks image → adds_up (from_block m image) ≡ true
  pub owns : (m : ℕ) → m < blocks image → own m (from_block m image) ≡ true
  pub counts : (m : ℕ) → m < blocks image → count (from_block m image) ≡ blocks image
  pub shares : (m : ℕ) → m < blocks image → same_shared image (from_block m image) ≡ true
  pub sounds : sound (system_of image) ≡ true

pub accepted : (image : List ℕ) → refusal image ≡ 0 → Accepted image
unfolding could_satisfy_01 across
accepted image e =
    let n = blocks image in
    let all = (accepted_exactly image).0 e in
    let could = (and-eq-true_iff (every n (fields image)) (across image)).0 all.2 in
    let both = (and-eq-true_iff (every n (λ m. same_shared image (from_block m image))) (sound (system_of image))).0 could.1 in
    let each : (m : ℕ) → m < n → _ = λ m h. (and-eq-true_iff (own m (from_block m image)) _).0 ((every_at n (fields image)).0 could.0 m h) in
    record {
      sized = well_sized (length image) all.0;
      checks = (every_at n _).0 all.1;
      owns = λ m h. (each m h).0;
      counts = λ m h. eqb-true _ _ (each m h).1;
      shares = (every_at n _).0 both.0;
      sounds = both.1;
    }
