-- P4: what an undefined access, and a direct translation that finds no match, carry; and that nothing else does. Assumes nothing.
use Prim.Native.Nat.{ℕ, ◌/◌}
use mathlib.Core.Path.{◌≡◌, refl, sym, ◌∙◌}
use mathlib.Core.Logic.{◌≢◌}
use mathlib.Core.Bool.{Bool, true, false}
use mathlib.Core.List.{List}
use native.Mathlib.Omega.{arith}
use lib.Dec.{eqb}
use borrow.Author.Tests.{eqb-true, eqb-false}
use Rattle.descriptors.proofs.Match.{yes_matches}
use Rattle.registers.specs.Unit.{flag}
use Rattle.registers.specs.Shared.{entry}
use Rattle.chip.specs.Answer.{granted}
use Rattle.chip.specs.Call.{performed}
use Rattle.chip.specs.Reason.{MayCarry}
use Rattle.chip.specs.declared.call.Call.{Call}
use Rattle.chip.specs.declared.call.Call.TheVariants as call
use Rattle.chip.proofs.Near.{near_carried}
use Rattle.chip.proofs.Reasons.{Reasoned, access_reason, translation_reason, carries_only}
use Rattle.pieces.specs.Pieces.{Bytes}
use Rattle.block.specs.Layout.{short, read}
use Rattle.cleftromi.specs.Interface.{cycle_by}
use Rattle.cleftromi.specs.Fields.{refusal, kind}
use Rattle.cleftromi.specs.Fields as field
use Rattle.cleftromi.proofs.Blocks.{short_answer, granted_told}
use Rattle.cleftromi.proofs.Images.{save_done, restore_done}
use Rattle.image.specs.Image.{system_of}
use Rattle.demands.specs.Histories as histories
use Rattle.demands.specs.Histories.{Access, Asks}
use Rattle.demands.specs.Demands.{AsStated}
use Rattle.demands.specs.Requests.{WhyUndefined}
use Rattle.demands.proofs.Calls.{made, made_save, made_restore}
use Rattle.demands.proofs.Refusals.{save_refused_by, restore_refused_by}
use Rattle.demands.proofs.Stated.{stated, accessed, translated}
use Rattle.demands.proofs.Images.{done_told, save_none, restore_none}

-- an access, through C: what it answers, and why
reasoned : {code direction address r : ℕ} {b e : List ℕ} → Bytes b → Access code direction address b r e → kind r ≢ 0
    → let o = performed (call.Access code (cycle_by direction) address) (read b) in
    AsStated o r e × Reasoned (address / 256) (entry (read b).shared code) (read b) o
reasoned {code} {direction} {address} {b = b} h k n = (accessed h k n, access_reason code (cycle_by direction) address (read b))

-- a refusal is its number alone, and carries nothing
refused_none : (answer : ℕ) → answer ≡ refusal answer → field.near answer ≡ 0
refused_none answer e = omega arith

-- an answer that is granted or refused: what the granted one has decides
none_by : (answer : ℕ) → (refusal answer ≢ 0 → answer ≡ refusal answer) → (refusal answer ≡ 0 → field.near answer ≡ 0) → field.near answer ≡ 0
none_by answer alone granted = go (eqb (refusal answer) 0) refl
  where
    go : (t : Bool) → eqb (refusal answer) 0 ≡ t → field.near answer ≡ 0
    go true q = granted (eqb-true _ _ q)
    go false q = refused_none answer (alone (eqb-false _ _ q))

set : (f : Bool) → flag f ≡ 1 → f ≡ true
set true e = refl
set false e = absurd (omega arith)

carrying : (c : Call) {r : ℕ} {b e : List ℕ} → Bytes b → Asks c b r e → field.near r ≡ 1 → MayCarry (kind r) (field.byte r) c
carrying c {r} {b} h a e = go (short b) refl
  where
    go : (t : Bool) → short b ≡ t → MayCarry (kind r) (field.byte r) c
    go true q = absurd (let z : r ≡ 7 = (made a).answered ∙ short_answer c b q in omega arith)
    go false q =
        let o = (stated c h q (made a)).fields in
        rw (o.kind, o.byte) (carries_only c (read b) (set _ (sym o.near ∙ e)))

pub why_undefined : WhyUndefined
unfolding granted
why_undefined = record {
  yes_stays = yes_matches;
  undefined_exactly = λ {function_code} {direction} {address} {b = b} h a e.
      let c = call.Access function_code (cycle_by direction) address in
      let m = made (histories.access a) in
      let o = (stated c h (granted_told c b (rw m.answered at e)).long m).fields in
      let w = access_reason function_code (cycle_by direction) address (read b) in
      (λ u. w.unmatched (sym o.kind ∙ u), λ n. o.kind ∙ w.so_undefined (sym o.refusal ∙ e) n);
  no_match_exactly = λ {m} {b = b} h a e.
      let o = translated h a e in
      let t = translation_reason m (read b) o.there o.clean.places.0 in
      rw o.byte t.exactly;
  access_carries = λ {function_code} {address = address} {b = b} h a e.
      let o = reasoned h a (λ z. omega arith) in
      rw (o.0.fields.near, o.0.fields.unit, o.0.fields.descriptor, o.1.whole (sym o.0.fields.kind ∙ e))
      (near_carried (address / 256) (entry (read b).shared function_code) (read b));
  translation_carries = λ {m} {b = b} h a e f.
      let o = translated h a e in
      let t = translation_reason m (read b) o.there o.clean.places.0 in
      rw (o.fields.near, o.fields.unit, o.fields.descriptor) (t.carried (sym o.byte ∙ f));
  access_else = λ h a e.
      let o = reasoned h a (λ z. omega arith) in
      let whole = o.1.whole (sym o.0.fields.kind ∙ e) in
      rw (o.0.fields.refusal, o.0.fields.win, o.0.fields.byte, o.0.fields.address, whole) (refl, refl, refl, refl);
  translation_else = λ h a e. let o = translated h a e in (o.fields.kind, o.fields.win, o.fields.address);
  no_other = λ {c} h a e. carrying c h a e;
  save_carries_none = λ {image} {answer = answer} {b} k.
      let m = made_save k in
      none_by answer (save_refused_by m).0.alone (λ e.
      rw (m.answered ∙ (save_done b image (sym (save_none m) ∙ e)).0) (done_told (read b)).near);
  restore_carries_none = λ {image} {answer} {b} k.
      let m = made_restore k in
      none_by answer (restore_refused_by m).alone (λ e.
      rw (m.answered ∙ (restore_done b image (sym (restore_none m) ∙ e)).0) (done_told (system_of image)).near);
}
