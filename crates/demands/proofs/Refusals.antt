-- Demand 1: a refusal is given exactly when the table says, is its number alone, and leaves every byte. Assumes nothing.
use Prim.Native.Nat.{ℕ}
use mathlib.Core.Path.{◌≡◌, sym, ◌∙◌}
use mathlib.Core.Logic.{◌≢◌}
use mathlib.Core.List.{List}
use Rattle.chip.specs.declared.call.Call.{Call}
use Rattle.cleftromi.specs.Interface.{refusals, save_refusals, save_answer, restore_refusals, restore_answer}
use Rattle.cleftromi.specs.Fields.{refusal}
use Rattle.cleftromi.proofs.Blocks.{refusal_is, refused_alone}
use Rattle.cleftromi.proofs.Images.{save_told, save_alone, restore_told, restore_alone}
use Rattle.demands.specs.Demands.{RefusedBy, Demand1}
use Rattle.demands.proofs.Calls.{Made, made, MadeSave, made_save, MadeRestore, made_restore}

refused_by : (c : Call) {b e : List ℕ} {r : ℕ} → Made c b r e → RefusedBy (refusals c b) b r e
refused_by c {b} m = rw (m.answered, m.left) (record {
  exactly = refusal_is c b;
  alone = λ n. (refused_alone c b n).0;
  unchanged = λ n. (refused_alone c b n).1;
})

pub save_refused_by : {image saved b e : List ℕ} {r : ℕ} → MadeSave image saved b r e
    → RefusedBy (save_refusals b image) b r e × (refusal r ≢ 0 → saved ≡ image)
save_refused_by {image} {b = b} m =
    let alone : (n : refusal (save_answer b image) ≢ 0) → _ = λ n. save_alone b image (rw (save_told b image) at n) in
    rw (m.answered, m.left, m.holds) (
      record {
        exactly = save_told b image;
        alone = λ n. (alone n).0 ∙ sym (save_told b image);
        unchanged = λ n. (alone n).1;
      },
      λ n. (alone n).2,
    )

pub restore_refused_by : {image b e : List ℕ} {r : ℕ} → MadeRestore image b r e → RefusedBy (restore_refusals b image) b r e
restore_refused_by {image} {b} m =
    let alone : (n : refusal (restore_answer b image) ≢ 0) → _ = λ n. restore_alone b image (rw (restore_told b image) at n) in
    rw (m.answered, m.left) (record {
      exactly = restore_told b image;
      alone = λ n. (alone n).0 ∙ sym (restore_told b image);
      unchanged = λ n. (alone n).1;
    })

pub demand_1 : Demand1
demand_1 = record {
  refused = λ {c} k. refused_by c (made k);
  save_refused = λ k. save_refused_by (made_save k);
  restore_refused = λ k. restore_refused_by (made_restore k);
}
