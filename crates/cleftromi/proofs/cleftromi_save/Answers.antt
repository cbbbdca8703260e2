-- `cleftromi_save` meets its contract: the block's length, then what image checks and writes. Assumes nothing.
use Rattle.std.proofs.Common.{◌≡◌, length, sym, refl, ap, ◌∙◌}
use Rattle.block.specs.Layout.{read}
use Rattle.image.specs.Refusals.{number, by_number}
use Rattle.image.specs.Image.{save_refusal, saved}
use Rattle.image.proofs.Restored.{number_counts, saving_refusal}
use Rattle.cleftromi.specs.Interface.{save_answer, save_after, save_image}
use Rattle.cleftromi.proofs.cleftromi_save.Goals as goal

pub returns-then-short : goal.returns-then-short
unfolding save_answer save_after save_image
returns-then-short c = rw (sym c.short.ensures ∙ c.if-short.true) record { value = refl; state_after = refl; image_after = refl }

pub returns-in-Err : goal.returns-in-Err
unfolding save_answer save_after save_image saved
returns-in-Err c =
    let r = c.in-Err.refusal in
    let told : save_refusal (length c.args.image.now) (read c.args.state.now) ≡ number r =
    rw (← c.read-system.ensures) (sym (saving_refusal (length c.args.image.now) _) ∙ ap by_number (sym c.save.ensures.value ∙ c.in-Err.is)) in
    let image = rw (c.read-system.ensures, told, number_counts r) at c.save.ensures.image_after in
    rw (sym c.short.ensures ∙ c.if-short.false, told, number_counts r)
    record { value = c.from.ensures ∙ c.number.ensures; state_after = refl; image_after = image }

pub returns-in-Ok : goal.returns-in-Ok
unfolding save_answer save_after save_image saved
returns-in-Ok c =
    let none : save_refusal (length c.args.image.now) (read c.args.state.now) ≡ 0 =
    rw (← c.read-system.ensures) (sym (saving_refusal (length c.args.image.now) _) ∙ ap by_number (sym c.save.ensures.value ∙ c.in-Ok.is)) in
    let image = rw (c.read-system.ensures, none) at c.save.ensures.image_after in
    rw (sym c.short.ensures ∙ c.if-short.false, none)
    record {
      value = rw (← c.read-system.ensures, ← c.granted.ensures) c.finish.ensures.value;
      state_after = rw (← c.read-system.ensures, ← c.granted.ensures) c.finish.ensures.state_after;
      image_after = image;
    }
