-- Demand 3: one match in every reached block, and what a load does in any block of bytes. Assumes nothing.
use Prim.Native.Nat.{ℕ, ◌<◌, ◌^◌}
use mathlib.Core.Path.{◌≡◌, refl, ◌∙◌}
use mathlib.Core.Logic.{◌≢◌}
use mathlib.Core.Bool.{Bool, true, false}
use mathlib.Core.List.{List}
use native.Mathlib.Omega.{arith}
use lib.Dec.{eqb}
use borrow.Author.Tests.{eqb-true, eqb-false}
use Rattle.descriptors.specs.Descriptor.{enabled}
use Rattle.descriptors.proofs.Enable.{clean_e}
use Rattle.registers.specs.Unit.{ac}
use Rattle.chip.specs.System.{unit, descriptor, pointed}
use Rattle.chip.specs.Answer.{values, undefined}
use Rattle.chip.specs.Load.{load}
use Rattle.chip.specs.Call.{performed}
use Rattle.chip.specs.declared.system.System.{System}
use Rattle.chip.specs.declared.access.Cycle.{Cycle}
use Rattle.chip.specs.declared.register.Operation.TheVariants as operation
use Rattle.chip.specs.declared.answer.Values.{Values}
use Rattle.chip.specs.declared.call.Call.{Call}
use Rattle.chip.specs.declared.call.Call.TheVariants as call
use Rattle.chip.proofs.Checked.{number_fits}
use Rattle.chip.proofs.Once.{at_most_one}
use Rattle.chip.proofs.Steps.{performed_clean}
use Rattle.chip.proofs.Loading.{load_refused, load_granted, load_shared, load_harmless}
use Rattle.chip.proofs.Still.{access_answer}
use Rattle.registers.proofs.Numbers.{small}
use Rattle.pieces.specs.Pieces.{Bytes}
use Rattle.block.specs.Layout.{short, read}
use Rattle.cleftromi.specs.Interface.{cycle_by, answer}
use Rattle.cleftromi.specs.Fields.{number_of, refusal, kind}
use Rattle.cleftromi.proofs.Blocks.{long_answer, granted_told, granted_holds}
use Rattle.demands.specs.Histories as histories
use Rattle.demands.specs.Demands.{above_irq, Load, Demand3}
use Rattle.demands.proofs.Calls.{Made, made}
use Rattle.demands.proofs.Histories.{reached_good}
use Rattle.demands.proofs.Refusals.{demand_1}
use Rattle.demands.proofs.Stated.{told, loaded}

-- ---- an access before a load and after it

-- an answer but for IRQ
abbrev SameAnswer : (before later : ℕ) → Type 0
SameAnswer a b = (refusal b ≡ refusal a) × (kind b ≡ kind a) × (above_irq b ≡ above_irq a)

but_irq : (v : Values) (x y : Bool) → v.number < 2 ^ 8 → SameAnswer (number_of v x) (number_of v y)
unfolding number_of
but_irq v x y n =
    let i = small x in
    let j = small y in
    (omega arith, omega arith, omega arith)

harmless_law : {m value r : ℕ} {b e : List ℕ} → Bytes b → Load m value b r e
    → enabled (descriptor (read b) (pointed m (read b))) ≡ false → (code : ℕ) (cycle : Cycle) (address : ℕ)
    → let c = call.Access code cycle address in kind (answer c b) ≢ undefined → SameAnswer (answer c b) (answer c e)
harmless_law {m} {r = r} {b} {e} h k off code cycle address d = go (eqb (refusal r) 0) refl
  where
    s : System
    s = read b

    c : Call
    c = call.Access code cycle address

    load_call : Call
    load_call = call.Register m 0x3F operation.Read

    k' : Made load_call b r e
    k' = made (histories.register k)

    go : (t : Bool) → eqb (refusal r) 0 ≡ t → SameAnswer (answer c b) (answer c e)
    go true q =
        let granted = eqb-true (refusal r) 0 q in
        let g = granted_told load_call b (rw k'.answered at granted) in
        let l = loaded h k granted in
        let n = l.clean in
        let long : short e ≡ false = rw k'.left (granted_holds load_call b g (performed_clean load_call s n k'.byte)).long in
        let same =
        access_answer code cycle address s (load m s).system (load_shared m s l.there n.places.0 n.places.1)
        (load_harmless m s l.there n.places.0 n.places.1 off) n.shared.entry (λ u. d ((told c b h g.long).kind ∙ u)) in
        rw (long_answer c b g.long, long_answer c e long, l.reads, same)
        (but_irq (values (performed c s).answer) (performed c s).irq (performed c (load m s).system).irq (number_fits c s))
    go false q = rw ((demand_1.refused (histories.register k)).unchanged (eqb-false _ _ q)) (refl, refl, refl)

-- ---- the three sentences

pub demand_3 : Demand3
demand_3 = record {
  one_match = λ r page number i j p n hi hj. at_most_one _ (reached_good r).invariants.apart page number i j p n hi hj;
  refused_exactly = λ {m} {b = b} h k granted e.
      let l = loaded h k granted in
      let s = l.clean.places in
      rw l.byte (load_refused m (read b) l.there s.0 s.1 e);
  else_enabled = λ {m} {b = b} h k granted e n.
      let l = loaded h k granted in
      let s = l.clean.places in
      let d = load_granted m (read b) l.there s.0 s.1 (rw l.byte at n) in
      (l.byte ∙ d.0, rw (l.reads, d.1) (clean_e (ac (unit (read b) m) 7) ∙ e));
  harmless = λ {b = b} h k off {function_code} {direction} {address} a a' d.
      let before = made (histories.access a) in
      let later = made (histories.access a') in
      rw (before.answered, later.answered)
      (harmless_law h k off function_code (cycle_by direction) address (rw before.answered at d));
}
