-- What holds of every block that can be reached.
--     Good b         the block is long enough and in its one written form, its system is clean, its enabled descriptors are
--                    apart, and its marked bytes agree
--     reached_good   in every reached block
-- Assumes nothing.
use Prim.Native.Nat.{ℕ}
use mathlib.Core.Path.{◌≡◌, refl, sym, ap, ◌∙◌}
use mathlib.Core.Bool.{Bool, true, false}
use mathlib.Core.List.{List, ◌++◌}
use lib.Dec.{eqb}
use lib.ListN.{take, drop, take-append-drop}
use lib.Seq.{take_at}
use borrow.Author.Tests.{eqb-true, eqb-false}
use Rattle.chip.specs.Answer.{first_of, numbered}
use Rattle.chip.specs.Call.{checks, performed}
use Rattle.chip.specs.declared.system.System.{System}
use Rattle.chip.specs.declared.call.Call.{Call}
use Rattle.chip.proofs.Invariants.{Invariants, performed_kept, started, was_reset}
use Rattle.block.specs.Layout.{size, short, form, read, written}
use Rattle.block.proofs.Round.{length_form}
use Rattle.cleftromi.specs.Interface.{selected_by, answer, after}
use Rattle.cleftromi.specs.Fields.{refusal}
use Rattle.cleftromi.proofs.Blocks.{Holds, form_holds, refused_alone, granted_told, granted_holds}
use Rattle.demands.specs.Histories.{Reached}
use Rattle.demands.specs.Histories as histories
use Rattle.cleftromi.proofs.Images.{written_holds, save_told, save_alone, save_done, restore_told, restore_alone, restorable, restore_done}
use Rattle.image.specs.Image.{system_of}
use Rattle.image.proofs.Back.{accepted_invariants}
use Rattle.demands.proofs.Calls.{Made, made, MadeSave, made_save, MadeRestore, made_restore}

pub record Good (b : List ℕ) : Type 0 where
  pub long : short b ≡ false
  pub invariants : Invariants (read b)
  pub form : written b (read b) ≡ b

holds_good : (t : System) (b : List ℕ) → Invariants t → Holds t b → Good b
holds_good t b k h = record { long = h.long; invariants = rw h.reads k; form = rw h.reads h.form }

-- the first call of a history, and one after it
begun : (c : Call) {b e : List ℕ} {r : ℕ} → Made c b r e → refusal r ≡ 0
    → (first_of (numbered (checks c (read b))) ≡ 0 → Invariants (performed c (read b)).system) → Good e
begun c {b} m granted k =
    let g = granted_told c b (rw m.answered at granted) in
    let s = k g.none in
    rw m.left (holds_good _ (after c b) s (granted_holds c b g s.clean))

followed : (c : Call) {b e : List ℕ} {r : ℕ} → Good b → Made c b r e → Good e
followed c {b} g m = rw m.left (go (eqb (refusal (answer c b)) 0) refl)
  where
    go : (t : Bool) → eqb (refusal (answer c b)) 0 ≡ t → Good (after c b)
    go true q =
        let s = performed_kept c (read b) g.invariants m.byte in
        holds_good _ (after c b) s (granted_holds c b (granted_told c b (eqb-true _ _ q)) s.clean)
    go false q = rw (refused_alone c b (eqb-false _ _ q)).1 g

-- a restore that is granted, whatever was there before; one that is not; and a save
restored : {image b e : List ℕ} {r : ℕ} → MadeRestore image b r e → refusal r ≡ 0 → Good e
restored {image} {b} m granted =
    let none = sym (restore_told b image) ∙ ap refusal (sym m.answered) ∙ granted in
    let ok = restorable b image none in
    let k = accepted_invariants image m.bytes ok.1 in
    rw (m.left, (restore_done b image none).1) (holds_good (system_of image) _ k (written_holds b (system_of image) ok.0 k.clean))

restored_or_not : {image b e : List ℕ} {r : ℕ} → Good b → MadeRestore image b r e → Good e
restored_or_not {image} {b} {e} {r} g m = go (eqb (refusal r) 0) refl
  where
    go : (t : Bool) → eqb (refusal r) 0 ≡ t → Good e
    go true q = restored m (eqb-true _ _ q)
    go false q = rw (m.left, (restore_alone b image (λ z. eqb-false _ _ q (ap refusal m.answered ∙ restore_told b image ∙ z))).1) g

saved : {image written b e : List ℕ} {r : ℕ} → Good b → MadeSave image written b r e → Good e
saved {image} {b = b} {e = e} {r = r} g m = go (eqb (refusal r) 0) refl
  where
    go : (t : Bool) → eqb (refusal r) 0 ≡ t → Good e
    go true q =
        let none = sym (save_told b image) ∙ ap refusal (sym m.answered) ∙ eqb-true _ _ q in
        rw (m.left, (save_done b image none).1, g.form) g
    go false q = rw (m.left, (save_alone b image (λ z. eqb-false _ _ q (ap refusal m.answered ∙ save_told b image ∙ z))).1) g

-- the first 4,096 bytes are the state, whatever follows them
front : (b : List ℕ) → Good b → take size b ≡ form (read b)
unfolding written
front b g =
    let l = length_form (read b) g.invariants.clean.shared.entries (drop size b) in
    ap (take size) (sym (rw g.long at g.form)) ∙ take_at (form (read b)) (drop size b) size l

lent : (b c : List ℕ) → Good b → take size c ≡ take size b → Good c
lent b c g e =
    let k = g.invariants in
    let split : form (read b) ++ drop size c ≡ c = ap (λ (xs : List ℕ). xs ++ drop size c) (sym (e ∙ front b g)) ∙ take-append-drop size c in
    rw split at (holds_good (read b) (form (read b) ++ drop size c) k (form_holds (read b) (drop size c) k.clean))

pub reached_good : {b : List ℕ} → Reached b → Good b
reached_good (histories.started {units} {selected} {before} k granted) =
    begun _ (made (histories.start k)) granted (started (read before) units (selected_by selected))
reached_good (histories.was_reset {selected} {before} k granted) =
    begun _ (made (histories.reset k)) granted (was_reset (read before) (selected_by selected))
reached_good (histories.restored k granted) = restored (made_restore k) granted
reached_good (histories.called r (histories.asks {c} k)) = followed c (reached_good r) (made k)
reached_good (histories.called r (histories.saves k)) = saved (reached_good r) (made_save k)
reached_good (histories.called r (histories.restores k)) = restored_or_not (reached_good r) (made_restore k)
reached_good (histories.lent_anew r e) = lent _ _ (reached_good r) e
