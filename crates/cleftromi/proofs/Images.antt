-- What a save and a restore answer, and what they leave in the block and in the image.
--     save_told, restore_told      the answer tells the table's refusal
--     save_alone, restore_alone    which is then the whole answer, and every byte is as it was
--     savable, restorable          what holds where it tells none
--     save_sound       whether it does, where the block is long enough and the image fits
--     save_done, restore_done      what is then answered and left
--     written_holds    a block that is long enough holds what is written to it
-- Assumes nothing.
use Prim.Native.Nat.{ℕ, ◌*◌, ◌<◌, ◌^◌}
use mathlib.Core.Path.{◌≡◌, refl}
use mathlib.Core.Bool.{true, false, not, cond}
use mathlib.Core.Logic.{◌≢◌}
use mathlib.Core.List.{List}
use native.Mathlib.Omega.{arith}
use lib.Dec.{eqb, lit<}
use lib.ListN.{length, drop}
use borrow.Author.Tests.{eq-eqb, ne_eqb, eqb-true, not-false}
use Rattle.chip.specs.Answer.{values, granted, first_of, miscounted}
use Rattle.chip.specs.Clean.{Clean}
use Rattle.chip.specs.declared.answer.Answer.TheVariants.{Done}
use Rattle.chip.specs.declared.system.System.{System}
use Rattle.chip.proofs.Checked.{either}
use Rattle.block.specs.Layout.{size, short, read, written}
use Rattle.image.specs.Block.{size as image_size}
use Rattle.image.specs.Rules.{sound}
use Rattle.image.specs.Image.{form, system_of, refusal as image_refusal}
use Rattle.image.proofs.Refused.{first_fits, past_row}
use Rattle.image.proofs.Accepted.{refusal_fits}
use Rattle.cleftromi.specs.Interface.{save_refusals, save_answer, save_after, save_image, restore_refusals, restore_answer, restore_after}
use Rattle.cleftromi.specs.Fields.{number_of, refusal}
use Rattle.cleftromi.proofs.Blocks.{told_is, told_alone, Holds, form_holds}

-- a block that is long enough holds what is written to it
pub written_holds : (b : List ℕ) (t : System) → short b ≡ false → Clean t → Holds t (written b t)
unfolding written
written_holds b t long c = rw long (form_holds t (drop size b) c)

module _ (b image : List ℕ) where
  save_fits : first_of (save_refusals b image) < 2 ^ 8
  save_fits =
      first_fits (save_refusals b image)
      (λ e. omega arith, lit< tt, (λ e. omega arith, lit< tt, (λ e. omega arith, lit< tt, (λ e. omega arith, lit< tt, tt))))

  pub save_told : refusal (save_answer b image) ≡ first_of (save_refusals b image)
  unfolding save_answer granted
  save_told = told_is (first_of (save_refusals b image)) (granted Done (read b)) save_fits refl

  pub save_alone : first_of (save_refusals b image) ≢ 0
      → (save_answer b image ≡ first_of (save_refusals b image)) × (save_after b image ≡ b) × (save_image b image ≡ image)
  unfolding save_answer save_after save_image
  save_alone n =
      let alone = told_alone (first_of (save_refusals b image)) (granted Done (read b)) b n in
      (alone.0, alone.1, rw (ne_eqb (first_of (save_refusals b image)) 0 n) refl)

  restore_fits : first_of (restore_refusals b image) < 2 ^ 8
  restore_fits = either (λ (n : ℕ). n < 2 ^ 8) (short b) (λ e. lit< tt) (λ e. refusal_fits image)

  pub restore_told : refusal (restore_answer b image) ≡ first_of (restore_refusals b image)
  unfolding restore_answer granted
  restore_told = told_is (first_of (restore_refusals b image)) (granted Done (system_of image)) restore_fits refl

  pub restore_alone : first_of (restore_refusals b image) ≢ 0
      → (restore_answer b image ≡ first_of (restore_refusals b image)) × (restore_after b image ≡ b)
  unfolding restore_answer restore_after
  restore_alone n = told_alone (first_of (restore_refusals b image)) (granted Done (system_of image)) b n

-- what a granted save asked for
pub record Savable (b image : List ℕ) : Type 0 where
  pub long : short b ≡ false
  pub counted : miscounted (read b).shared.board.count ≡ false
  pub sized : length image ≡ image_size * (read b).shared.board.count
  pub sound : sound (read b) ≡ true

module _ (b image : List ℕ) where
  pub savable : first_of (save_refusals b image) ≡ 0 → Savable b image
  savable e =
      let first = (past_row 7 (short b) _ (λ q. omega arith)).0 e in
      let second = (past_row 1 (miscounted (read b).shared.board.count) _ (λ q. omega arith)).0 first.1 in
      let third = (past_row 8 (not (eqb (length image) (image_size * (read b).shared.board.count))) _ (λ q. omega arith)).0 second.1 in
      let last = (past_row 10 (not (sound (read b))) 0 (λ q. omega arith)).0 third.1 in
      record {
        long = first.0;
        counted = second.0;
        sized = eqb-true _ _ (not-false _ third.0);
        sound = not-false _ last.0;
      }

  -- where the block is long enough and the image fits, what is left is whether the state could be read back
  pub save_sound : short b ≡ false → miscounted (read b).shared.board.count ≡ false → length image ≡ image_size * (read b).shared.board.count
      → first_of (save_refusals b image) ≡ cond (not (sound (read b))) 10 0
  save_sound long counted sized = rw (long, counted, eq-eqb _ _ sized) refl

  pub save_done : first_of (save_refusals b image) ≡ 0 → let o = granted Done (read b) in
      (save_answer b image ≡ number_of (values o.answer) o.irq) × (save_after b image ≡ written b (read b))
      × (save_image b image ≡ form (read b))
  unfolding save_answer save_after save_image granted
  save_done e = rw (eq-eqb (first_of (save_refusals b image)) 0 e) (refl, refl, refl)

  pub restorable : first_of (restore_refusals b image) ≡ 0 → (short b ≡ false) × (image_refusal image ≡ 0)
  restorable e = (past_row 7 (short b) (image_refusal image) (λ q. omega arith)).0 e

  pub restore_done : first_of (restore_refusals b image) ≡ 0 → let o = granted Done (system_of image) in
      (restore_answer b image ≡ number_of (values o.answer) o.irq) × (restore_after b image ≡ written b (system_of image))
  unfolding restore_answer restore_after granted
  restore_done e = rw (eq-eqb (first_of (restore_refusals b image)) 0 e) (refl, refl)
