-- Demand 2: a call answers the values, and leaves the registers, of its definition's outcome.
--     told        the fields of its answer, on any bytes that are long enough
--     stated      these, and what the block then reads as
--     accessed    so of a bus access, by any answer that is no refusal
--     loaded, translated      and of a load and a direct translation, which are register reads
-- Assumes nothing.
use Prim.Native.Nat.{ℕ, ◌<◌}
use mathlib.Core.Path.{◌≡◌, refl, sym, ap, subst, ◌∙◌}
use mathlib.Core.Logic.{◌≢◌}
use mathlib.Core.Bool.{Bool, true, false}
use mathlib.Core.List.{List}
use lib.Dec.{eqb}
use borrow.Author.Tests.{eqb-true, eqb-false}
use Rattle.chip.specs.Answer.{values, granted}
use Rattle.chip.specs.Call.{performed}
use Rattle.chip.specs.Clean.{Clean}
use Rattle.registers.specs.Unit.{flag}
use Rattle.chip.specs.System.{present}
use Rattle.chip.specs.Load.{load}
use Rattle.chip.specs.Translation.{direct_translation}
use Rattle.chip.specs.Register.{register_at, read as read_register, operate}
use Rattle.chip.specs.declared.answer.Answer.TheVariants.{Byte}
use Rattle.chip.specs.declared.answer.Outcome.{Outcome}
use Rattle.chip.specs.declared.answer.Reading.{Reading}
use Rattle.chip.specs.declared.register.Operation.TheVariants as operation
use Rattle.chip.specs.declared.call.Call.{Call}
use Rattle.chip.specs.declared.call.Call.TheVariants as call
use Rattle.chip.proofs.Checked.{performed_granted, performed_irq, refused_system}
use Rattle.chip.proofs.Counts.{counted_present}
use Rattle.chip.proofs.Fit.{performed_fit}
use Rattle.pieces.specs.Pieces.{Bytes}
use Rattle.block.specs.Layout.{short, read}
use Rattle.block.proofs.Tidy.{read_clean}
use Rattle.cleftromi.specs.Interface.{cycle_by, answer, after}
use Rattle.cleftromi.specs.Fields.{Fields, refusal, kind}
use Rattle.cleftromi.specs.Fields as field
use Rattle.cleftromi.proofs.Fields.{fields}
use Rattle.cleftromi.proofs.Blocks.{long_answer, short_answer, refusal_is, refused_alone, granted_told, granted_reads}
use Rattle.demands.specs.Demands.{AsStated, Demand2, Load, Translation}
use Rattle.demands.specs.Histories as histories
use Rattle.demands.specs.Histories.{Access, Register}
use Rattle.demands.proofs.Calls.{Made, made}

pub told : (c : Call) (b : List ℕ) → Bytes b → short b ≡ false → Fields (values (performed c (read b)).answer) (performed c (read b)).irq (answer c b)
told c b h long = rw (long_answer c b long) (fields _ _ (performed_fit c (read b) (read_clean b h)))

pub stated : (c : Call) {b e : List ℕ} {r : ℕ} → Bytes b → short b ≡ false → Made c b r e → AsStated (performed c (read b)) r e
stated c {b} h long m = record {
  fields = rw m.answered (told c b h long);
  registers = rw m.left (go (eqb (refusal (answer c b)) 0) refl);
}
  where
    go : (t : Bool) → eqb (refusal (answer c b)) 0 ≡ t → read (after c b) ≡ (performed c (read b)).system
    go true q = granted_reads c b (granted_told c b (eqb-true _ _ q)) h m.byte
    go false q =
        let n = eqb-false _ _ q in
        ap read (refused_alone c b n).1 ∙ sym (refused_system c (read b) (rw (refusal_is c b, long) at n))

pub demand_2 : Demand2
demand_2 = record {
  stated = λ {c} h long k. stated c h long (made k);
  irq_after = λ {c} {b = b} h k e.
      let g = granted_told c b (rw (made k).answered at e) in
      let o = stated c h g.long (made k) in
      o.fields.irq ∙ rw o.registers (ap flag (performed_irq c (read b) g.none));
}

-- ---- a bus access through C

pub accessed : {code direction address r : ℕ} {b e : List ℕ} → Bytes b → Access code direction address b r e → kind r ≢ 0
    → AsStated (performed (call.Access code (cycle_by direction) address) (read b)) r e
accessed {code} {direction} {address} {r} {b} {e} h k n = go (short b) refl
  where
    c : Call
    c = call.Access code (cycle_by direction) address

    go : (t : Bool) → short b ≡ t → AsStated (performed c (read b)) r e
    go true q = absurd (n (ap kind ((made (histories.access k)).answered ∙ short_answer c b q)))
    go false q = stated c h q (made (histories.access k))

-- ---- a register read through C

pub record WasRead (reading : Reading) (m : ℕ) (b : List ℕ) (r : ℕ) (e : List ℕ) : Type 0 where
  pub there : m < present (read b)
  pub clean : Clean (read b)
  pub byte : field.byte r ≡ reading.byte
  pub reads : read e ≡ reading.system
  pub asserted : Bool
  pub fields : Fields (values (Byte reading.byte reading.near)) asserted r

-- where it has no numbered refusal, it is the read of that register in unit m
was_read : (m address : ℕ) {value r : ℕ} {b e : List ℕ} → Bytes b → Register m address 0 value b r e → refusal r ≡ 0
    → WasRead (read_register (register_at address) m (read b)) m b r e
unfolding granted operate
was_read m address {r = r} {b} h k e =
    let c = call.Register m address operation.Read in
    let k' = made (histories.register k) in
    let g = granted_told c b (rw k'.answered at e) in
    let l = performed_granted c (read b) g.none in
    let o = stated c h g.long k' in
    record {
      there = counted_present m (read b).shared.board.count l.0.0 l.0.1.0;
      clean = read_clean b h;
      byte = o.fields.byte ∙ ap (λ (o : Outcome). (values o.answer).byte) l.1;
      reads = o.registers ∙ ap (λ (o : Outcome). o.system) l.1;
      asserted = (performed c (read b)).irq;
      fields = subst (λ (p : Outcome). Fields (values p.answer) (performed c (read b)).irq r) l.1 o.fields;
    }

-- a load, and a direct translation
pub loaded : {m value r : ℕ} {b e : List ℕ} → Bytes b → Load m value b r e → refusal r ≡ 0 → WasRead (load m (read b)) m b r e
unfolding register_at read_register
loaded {m} h k e = was_read m 0x3F h k e

pub translated : {m value r : ℕ} {b e : List ℕ} → Bytes b → Translation m value b r e → refusal r ≡ 0
    → WasRead (direct_translation m (read b)) m b r e
unfolding register_at read_register
translated {m} h k e = was_read m 0x3D h k e
