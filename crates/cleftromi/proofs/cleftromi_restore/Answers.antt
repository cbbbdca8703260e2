-- `cleftromi_restore` meets its contract: the block's length, then what the image is read as. Assumes nothing.
use Rattle.std.proofs.Common.{◌≡◌, sym, refl, ap, ◌∙◌}
use Rattle.image.specs.Refusals.{number, by_number}
use Rattle.image.specs.Image.{refusal, system_of}
use Rattle.image.proofs.Restored.{number_counts, restored_refusal, restored_system}
use Rattle.cleftromi.specs.Interface.{restore_answer, restore_after}
use Rattle.cleftromi.proofs.cleftromi_restore.Goals as goal

pub returns-then-short : goal.returns-then-short
unfolding restore_answer restore_after
returns-then-short c = rw (sym c.short.ensures ∙ c.if-short.true) record { value = refl; state_after = refl }

pub returns-in-Err : goal.returns-in-Err
unfolding restore_answer restore_after
returns-in-Err c =
    let image = c.args.image.now in
    let r = c.in-Err.refusal in
    let told : refusal image ≡ number r = sym (restored_refusal image) ∙ ap by_number (sym c.restore.ensures ∙ c.in-Err.is) in
    rw (sym c.short.ensures ∙ c.if-short.false, told, number_counts r)
    record { value = c.from.ensures ∙ c.number.ensures; state_after = refl }

pub returns-in-Ok : goal.returns-in-Ok
unfolding restore_answer restore_after
returns-in-Ok c =
    let image = c.args.image.now in
    let given = sym c.restore.ensures ∙ c.in-Ok.is in
    let none : refusal image ≡ 0 = sym (restored_refusal image) ∙ ap by_number given in
    let system : c.in-Ok.system ≡ system_of image = restored_system image _ given in
    rw (sym c.short.ensures ∙ c.if-short.false, none, ← system, ← c.granted.ensures) c.finish.ensures
