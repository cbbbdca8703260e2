-- P2: a save and a restore, what they answer and leave, and the round trip both ways. Assumes nothing.
use Prim.Native.Nat.{ℕ, ◌*◌, ◌≤◌}
use mathlib.Core.Path.{◌≡◌, refl, sym, ap, ◌∙◌}
use mathlib.Core.Logic.{◌≢◌}
use mathlib.Core.Bool.{true, false, not, cond, true≢false}
use mathlib.Core.List.{List}
use native.Mathlib.Omega.{arith}
use lib.Dec.{lit<}
use lib.ListN.{length}
use Rattle.descriptors.proofs.Clash.{clash_matches}
use Rattle.chip.specs.Answer.{values, granted, first_of, miscounted}
use Rattle.chip.specs.System.{descriptor}
use Rattle.chip.specs.Clean.{Clean}
use Rattle.chip.specs.declared.answer.Answer.TheVariants.{Done}
use Rattle.chip.specs.declared.system.System.{System}
use Rattle.chip.proofs.Counts.{well_counted}
use Rattle.chip.proofs.Marked.{Agreed}
use Rattle.chip.proofs.Once.{Apart}
use Rattle.pieces.specs.Pieces.{Bytes}
use Rattle.block.specs.Layout.{short, read, written}
use Rattle.block.proofs.Tidy.{read_clean}
use Rattle.image.specs.Block.{size}
use Rattle.image.specs.Rules.{sound}
use Rattle.image.specs.Image.{form, system_of}
use Rattle.image.specs.Image as image
use Rattle.image.proofs.Accepted as accepted
use Rattle.image.proofs.Sound.{sound_law, invariants_sound}
use Rattle.image.proofs.Round.{system_back, form_refusal}
use Rattle.image.proofs.Back.{accepted_clean, accepted_back, accepted_invariants, accepted_length}
use Rattle.cleftromi.specs.Interface.{save_refusals, restore_refusals}
use Rattle.cleftromi.specs.Fields.{Fields, number_of, refusal}
use Rattle.cleftromi.proofs.Fields.{fields}
use Rattle.cleftromi.proofs.Blocks.{Holds}
use Rattle.cleftromi.proofs.Images.{written_holds, save_told, savable, save_sound, save_done, restore_told, restorable, restore_done}
use Rattle.demands.specs.Demands.{AsStated, OneMatch, SameMarked}
use Rattle.demands.specs.Requests.{EndOfShiftImage}
use Rattle.demands.proofs.Calls.{MadeSave, made_save, MadeRestore, made_restore}
use Rattle.demands.proofs.Histories.{reached_good}

-- a count that is one to six
record Few (n : ℕ) : Type 0 where
  some : 1 ≤ n
  six : n ≤ 6

one_to_six : (n : ℕ) → miscounted n ≡ false → Few n
one_to_six n e = record { some = omega (arith, well_counted n e, positive n e); six = well_counted n e }
  where
    positive : (n : ℕ) → miscounted n ≡ false → n ≢ 0
    positive n e z = true≢false (sym (ap (λ (k : ℕ). miscounted k) z) ∙ e)

-- an answer tells the table's refusal
pub save_none : {image saved b e : List ℕ} {r : ℕ} → MadeSave image saved b r e → refusal r ≡ first_of (save_refusals b image)
save_none {image} {b = b} m = ap refusal m.answered ∙ save_told b image

pub restore_none : {image b e : List ℕ} {r : ℕ} → MadeRestore image b r e → refusal r ≡ first_of (restore_refusals b image)
restore_none {image} {b} m = ap refusal m.answered ∙ restore_told b image

-- done, and nothing else but IRQ
pub done_told : (t : System) → let o = granted Done t in Fields (values o.answer) o.irq (number_of (values o.answer) o.irq)
unfolding granted
done_told t =
    fields _ _ (record { number = lit< tt; kind = lit< tt; unit = lit< tt; descriptor = lit< tt; byte = lit< tt; address = lit< tt })

-- a call that is done, and leaves a system in clean form in a block that is long enough
done_stated : (t : System) (b : List ℕ) {r : ℕ} {e : List ℕ} → short b ≡ false → Clean t
    → let o = granted Done t in r ≡ number_of (values o.answer) o.irq → e ≡ written b t → AsStated o r e
unfolding granted
done_stated t b long c answered left = record {
  fields = rw answered (done_told t);
  registers = rw left (written_holds b t long c).reads;
}

-- a state whose enabled descriptors match no address twice and whose marked bytes are alike could be read back
meets_sound : (b : List ℕ) → Bytes b → OneMatch b → SameMarked b → sound (read b) ≡ true
unfolding Apart Agreed
meets_sound b h one same =
    (sound_law (read b) (read_clean b h)).1 (
      same,
      λ i j hi hj ei ej c.
          let k = clash_matches (descriptor (read b) i) (descriptor (read b) j) ei ej c in
          one k.0 k.1 i j k.2 k.3 hi hj k.4 k.5,
    )

-- the image of a clean system of one to six units is accepted where the system is sound, and refused as 10 where it is not
module _ (s : System) (c : Clean s) (counted : miscounted s.shared.board.count ≡ false) where
  few : Few s.shared.board.count
  few = one_to_six s.shared.board.count counted

  image_refused : image.refusal (form s) ≡ cond (not (sound s)) 10 0
  image_refused = form_refusal s c few.some few.six

  image_back : system_of (form s) ≡ s
  image_back = system_back s c few.some few.six

-- a restore of the image of a sound system gives it
given_back : (s : System) → Clean s → miscounted s.shared.board.count ≡ false → sound s ≡ true → {c e : List ℕ} {r : ℕ}
    → short c ≡ false → MadeRestore (form s) c r e → (refusal r ≡ 0) × (e ≡ written c s)
given_back s k counted good {c} long m =
    let accepted : image.refusal (form s) ≡ 0 = image_refused s k counted ∙ rw good refl in
    let none : first_of (restore_refusals c (form s)) ≡ 0 = rw (long, accepted) refl in
    (restore_none m ∙ none, m.left ∙ (restore_done c (form s) none).1 ∙ ap (written c) (image_back s k counted))

pub end_of_shift_image : EndOfShiftImage
end_of_shift_image = record {
  saves = λ {image} {b = b} h k e.
      let m = made_save k in
      let none = sym (save_none m) ∙ e in
      let d = save_done b image none in
      (done_stated (read b) b (savable b image none).long (read_clean b h) (m.answered ∙ d.0) (m.left ∙ d.1), m.holds ∙ d.2);
  restores = λ {image} {b = b} k e.
      let m = made_restore k in
      let none = sym (restore_none m) ∙ e in
      let ok = restorable b image none in
      let d = restore_done b image none in
      done_stated (system_of image) b ok.0 (accepted_clean image m.bytes ok.1) (m.answered ∙ d.0) (m.left ∙ d.1);
  meets_saved = λ {image} {b = b} h long one same fits k.
      save_none (made_save k) ∙ save_sound b image long fits.0 fits.1 ∙ rw (meets_sound b h one same) refl;
  saved_restored = λ {image} {b = b} {c = c} h k e long k'.
      let m = made_save k in
      let none = sym (save_none m) ∙ e in
      let s = savable b image none in
      let saved = m.holds ∙ (save_done b image none).2 in
      let back = given_back (read b) (read_clean b h) s.counted s.sound long (rw saved at (made_restore k')) in
      (back.0, rw back.1 (written_holds c (read b) long (read_clean b h)).reads);
  restored_saved = λ {image} {other} {b = b} {after} k e sized k'.
      let m = made_restore k in
      let none = sym (restore_none m) ∙ e in
      let ok = restorable b image none in
      let i = accepted_invariants image m.bytes ok.1 in
      let holds : Holds (system_of image) after =
      rw (m.left, (restore_done b image none).1) (written_holds b (system_of image) ok.0 i.clean) in
      let length : length other ≡ size * (read after).shared.board.count = rw holds.reads (sized ∙ accepted_length image m.bytes ok.1) in
      let again : first_of (save_refusals after other) ≡ 0 =
      save_sound after other holds.long (rw holds.reads i.counted) length ∙ rw (holds.reads, invariants_sound (system_of image) i) refl in
      let m' = made_save k' in
      (save_none m' ∙ again, m'.holds ∙ (save_done after other again).2 ∙ ap form holds.reads ∙ accepted_back image m.bytes ok.1);
  accepted_exactly = λ {image} {b = b} long k.
      rw (restore_none (made_restore k), long) (accepted.accepted_exactly image);
  refused_alike = λ {image} {b = b} h long fits k.
      save_none (made_save k) ∙ save_sound b image long fits.0 fits.1 ∙ sym (image_refused (read b) (read_clean b h) fits.0);
  reached_saved = λ {image} {b = b} r sized k.
      let g = reached_good r in
      let i = g.invariants in
      let none : first_of (save_refusals b image) ≡ 0 = save_sound b image g.long i.counted sized ∙ rw (invariants_sound (read b) i) refl in
      let m = made_save k in
      (save_none m ∙ none, m.left ∙ (save_done b image none).1 ∙ g.form);
  reached_restored = λ {image} {b = b} r k e k'.
      let g = reached_good r in
      let i = g.invariants in
      let m = made_save k in
      let saved = m.holds ∙ (save_done b image (sym (save_none m) ∙ e)).2 in
      let back = given_back (read b) i.clean i.counted (invariants_sound (read b) i) g.long (rw saved at (made_restore k')) in
      (back.0, back.1 ∙ g.form);
}
