-- P1: a read-modify-write beside a read and a write, and what an access leaves in the descriptors. Assumes nothing.
use Prim.Native.Nat.{ℕ}
use mathlib.Core.Path.{◌≡◌, refl, sym, ◌∙◌}
use mathlib.Core.Logic.{◌≢◌}
use mathlib.Core.Bool.{Bool, true, false}
use mathlib.Core.List.{List}
use native.Mathlib.Omega.{arith}
use lib.Dec.{eqb, lit<}
use borrow.Author.Tests.{eqb-true, eqb-false, eq-eqb, ne_eqb}
use Rattle.chip.specs.Answer.{values, undefined}
use Rattle.chip.specs.Call.{performed}
use Rattle.chip.specs.declared.access.Cycle.{Cycle}
use Rattle.chip.specs.declared.access.Cycle.TheVariants as cycle
use Rattle.chip.specs.declared.call.Call.{Call}
use Rattle.chip.specs.declared.call.Call.TheVariants as call
use Rattle.chip.proofs.Checked.{performed_number}
use Rattle.chip.proofs.Segments.{Segments, access_segments}
use Rattle.chip.proofs.Halves.{modify_undefined, modify_halves}
use Rattle.chip.proofs.Steps.{performed_clean}
use Rattle.pieces.specs.Pieces.{Bytes}
use Rattle.block.specs.Layout.{short, read}
use Rattle.block.proofs.Tidy.{read_clean}
use Rattle.cleftromi.specs.Interface.{cycle_by, operation_by, answer, after}
use Rattle.cleftromi.specs.Fields.{refusal, kind}
use Rattle.cleftromi.proofs.Directions.{writes_by}
use Rattle.cleftromi.proofs.Blocks.{long_answer, long_after, refusal_is, refused_alone, Granted, granted_told, in_a_row}
use Rattle.demands.specs.Histories as histories
use Rattle.demands.specs.Histories.{Access}
use Rattle.demands.specs.Demands.{AsStated}
use Rattle.demands.specs.Requests.{ReadModifyWriteCycle}
use Rattle.demands.proofs.Calls.{Made, made}
use Rattle.demands.proofs.Stated.{told, accessed}

-- two calls that answer and leave the same
abbrev Alike : (c d : Call) (b e : List ℕ) → Type 0
Alike c d b e = (answer c b ≡ answer d e) × (after c b ≡ after d e)

made_alike : {c d : Call} {b e after_c after_d : List ℕ} {r q : ℕ} → Made c b r after_c → Made d e q after_d → Alike c d b e
    → (r ≡ q) × (after_c ≡ after_d)
made_alike m n a = (m.answered ∙ a.0 ∙ sym n.answered, m.left ∙ a.1 ∙ sym n.left)

module _ (code address : ℕ) (b : List ℕ) where
  by : Cycle → Call
  by cycle = call.Access code cycle address

  -- the checks of an access do not ask for its cycle, and a refusal does nothing else
  refused_by_any : (c d : Cycle) → refusal (answer (by c) b) ≢ 0 → Alike (by c) (by d) b b
  unfolding by
  refused_by_any c d n =
      let same : refusal (answer (by c) b) ≡ refusal (answer (by d) b) = refusal_is (by c) b ∙ sym (refusal_is (by d) b) in
      let r = refused_alone (by c) b n in
      let q = refused_alone (by d) b (rw same at n) in
      (r.0 ∙ same ∙ sym q.0, r.1 ∙ sym q.1)

  module _ (h : Bytes b) where
    kind_is : (c : Cycle) → short b ≡ false → kind (answer (by c) b) ≡ (values (performed (by c) (read b)).answer).kind
    kind_is c long = (told (by c) b h long).kind

    undefined_alike : kind (answer (by cycle.ReadModifyWrite) b) ≡ undefined → Alike (by cycle.ReadModifyWrite) (by cycle.Read) b b
    unfolding by
    undefined_alike u = go (eqb (refusal (answer (by cycle.ReadModifyWrite) b)) 0) refl
      where
        go : (t : Bool) → eqb (refusal (answer (by cycle.ReadModifyWrite) b)) 0 ≡ t → Alike (by cycle.ReadModifyWrite) (by cycle.Read) b b
        go true q =
            let long = (granted_told (by cycle.ReadModifyWrite) b (eqb-true _ _ q)).long in
            let same = modify_undefined code address (read b) (sym (kind_is cycle.ReadModifyWrite long) ∙ u) in (
              rw (long_answer (by cycle.ReadModifyWrite) b long, long_answer (by cycle.Read) b long, same) refl,
              rw (long_after (by cycle.ReadModifyWrite) b long, long_after (by cycle.Read) b long, same) refl,
            )
        go false q = refused_by_any cycle.ReadModifyWrite cycle.Read (eqb-false _ _ q)

    halves_alike : kind (answer (by cycle.ReadModifyWrite) b) ≢ undefined
        → Alike (by cycle.ReadModifyWrite) (by cycle.Write) b (after (by cycle.Read) b)
    unfolding by
    halves_alike u = go (eqb (refusal (answer (by cycle.ReadModifyWrite) b)) 0) refl
      where
        c : Call
        c = by cycle.ReadModifyWrite

        go : (t : Bool) → eqb (refusal (answer c b)) 0 ≡ t → Alike c (by cycle.Write) b (after (by cycle.Read) b)
        go true q =
            let granted = granted_told c b (eqb-true _ _ q) in
            let long = granted.long in
            let clean = read_clean b h in
            let same = modify_halves code address (read b) clean (λ e. u (kind_is cycle.ReadModifyWrite long ∙ e)) in
            let first : Granted (by cycle.Read) b = record { long = long; none = granted.none } in
            let row = in_a_row (by cycle.Read) (by cycle.Write) b first (performed_clean (by cycle.Read) (read b) clean (lit< tt)) in
            let number = performed_number c (read b) ∙ granted.none in (
              long_answer c b long ∙ rw (row.0, same) refl,
              long_after c b long ∙ rw (row.1, ← same, eq-eqb _ _ number) refl,
            )
        go false q =
            let n = eqb-false _ _ q in
            let same = refused_by_any cycle.ReadModifyWrite cycle.Read n in
            let stays : after (by cycle.Read) b ≡ b = sym same.1 ∙ (refused_alone c b n).1 in
            rw stays (refused_by_any cycle.ReadModifyWrite cycle.Write n)

-- ---- the numbers of a direction

operation_writes : (direction value : ℕ) → direction ≢ 0 → operation_by direction value ≡ operation_by 1 value
operation_writes direction value n = rw (ne_eqb _ _ n) refl

-- ---- what an access leaves in the descriptors

segments : {code direction address r : ℕ} {b e : List ℕ} → Bytes b → Access code direction address b r e → kind r ≢ 0
    → let o = performed (call.Access code (cycle_by direction) address) (read b) in
    AsStated o r e × Segments (cycle_by direction) (read b) o
segments {code} {direction} {address} {b = b} h k n =
    (accessed h k n, access_segments code (cycle_by direction) address (read b) (read_clean b h).places.1)

pub read_modify_write : ReadModifyWriteCycle
unfolding by
read_modify_write = record {
  undefined_reads = λ {function_code} {address} {b = b} h a u r.
      let m = made (histories.access a) in
      made_alike m (made (histories.access r)) (undefined_alike function_code address b h (rw m.answered at u));
  halves = λ {function_code} {address} {b = b} h a u r w.
      let m = made (histories.access a) in
      let read_left = (made (histories.access r)).left in
      made_alike m (made (histories.access w)) (rw read_left (halves_alike function_code address b h (rw m.answered at u)));
  gives_address = λ h a e.
      let o = segments h a (λ z. omega arith) in
      rw (o.0.registers, o.0.fields.unit, o.0.fields.descriptor) (o.1.mapped (sym o.0.fields.kind ∙ e));
  violates = λ h a e.
      let o = segments h a (λ z. omega arith) in
      rw (o.0.registers, o.0.fields.unit, o.0.fields.descriptor) (o.1.violating (sym o.0.fields.kind ∙ e));
  finds_nothing = λ h a e.
      let o = segments h a (λ z. omega arith) in
      rw o.0.registers (o.1.missed (sym o.0.fields.kind ∙ e));
  others_write = λ {direction = direction} n m a w.
      made_alike (made (histories.access a)) (made (histories.access w)) (rw (writes_by direction n m) (refl, refl));
  registers_write = λ {direction = direction} {value} n a w.
      made_alike (made (histories.register a)) (made (histories.register w)) (rw (operation_writes direction value n) (refl, refl));
}
