-- What a call answers, and what it leaves in the block.
--     long_answer, long_after     a block that is long enough: the outcome's answer as a number, and its system if it is granted
--     short_answer       one that is too short: 7
--     refused_told, others_told   so a refusal is its number and leaves the block, and any other answer is written
--     Holds t b          the block b is long enough, reads as t, and is t's one written form
--     form_holds         the written form of a clean system does, whatever follows it
--     told_is, told_alone     what an answer tells, and what a refusal leaves, whatever the call
--     refusal_is         the answer tells the table's refusal
--     refused_alone      which is then the whole answer, and the block is as it was
--     Granted c b        the block is long enough, and no check applies
--     granted_told       so it is where the answer tells no refusal
--     granted_holds      then, if the call leaves a clean system, the block holds it
--     granted_reads      so it does on any bytes
--     in_a_row           what a call answers and leaves after one that was granted: as if the block held that one's system at once
-- Assumes nothing.
use Prim.Native.Nat.{ℕ, ◌<◌, ◌≤◌, ◌^◌}
use mathlib.Core.Path.{◌≡◌, refl, sym, ap, ◌∙◌}
use mathlib.Core.Bool.{Bool, true, false, cond}
use mathlib.Core.Logic.{◌≢◌}
use mathlib.Core.List.{List, ◌∷◌, ◌++◌}
use native.Mathlib.Omega.{arith}
use lib.Dec.{eqb, lit<}
use lib.ListN.{length, drop, length-append}
use lib.Seq.{drop_at}
use borrow.Author.Tests.{eq-eqb, ne_eqb, eqb-true, le-ltb}
use Rattle.chip.specs.Answer.{number, values, refused, first_of, numbered}
use Rattle.chip.specs.Call.{checks, carried_out, performed}
use Rattle.chip.specs.Clean.{Clean}
use Rattle.chip.specs.declared.system.System.{System}
use Rattle.chip.specs.declared.answer.Outcome.{Outcome}
use Rattle.chip.specs.declared.answer.Refusal.{Refusal}
use Rattle.chip.specs.declared.answer.Answer.{Answer}
use Rattle.chip.specs.declared.answer.Answer.TheVariants.{Refused, Done, Byte, Mapped, Violation, Undefined}
use Rattle.chip.specs.declared.call.Call.{Call}
use Rattle.chip.proofs.Checked.{either, refusal_told, checks_law, carried_out_granted, performed_number, number_fits}
use Rattle.chip.proofs.Steps.{bus, performed_clean}
use Rattle.pieces.specs.Pieces.{Bytes}
use Rattle.block.specs.Layout.{size, short, form, read, written}
use Rattle.block.proofs.Round.{length_form, system_back}
use Rattle.block.proofs.Tidy.{read_clean}
use Rattle.cleftromi.specs.Interface.{refusals, told, left, answer, after}
use Rattle.cleftromi.specs.Fields.{number_of, refusal}
use Rattle.cleftromi.proofs.Fields.{refusal_back}

pub long_answer : (c : Call) (b : List ℕ) → short b ≡ false → let o = performed c (read b) in
    answer c b ≡ number_of (values o.answer) o.irq
unfolding answer refused number_of
long_answer c b long =
    rw long
    (checks_law c (read b)
    (λ n (o : Outcome). let p = carried_out c (read b) in
    cond (eqb n 0) (number_of (values p.answer) p.irq) n ≡ number_of (values o.answer) o.irq)
    (λ r. rw (ne_eqb _ _ (refusal_told r).0) (omega arith)) (λ n. refl))

pub short_answer : (c : Call) (b : List ℕ) → short b ≡ true → answer c b ≡ 7
unfolding answer
short_answer c b q = rw q

pub long_after : (c : Call) (b : List ℕ) → short b ≡ false → let o = performed c (read b) in
    after c b ≡ cond (eqb (values o.answer).number 0) (written b o.system) b
unfolding after
long_after c b long =
    rw (long, performed_number c (read b))
    (checks_law c (read b)
    (λ n (o : Outcome). cond (eqb n 0) (written b (carried_out c (read b)).system) b ≡ cond (eqb n 0) (written b o.system) b)
    (λ r. rw (ne_eqb _ _ (refusal_told r).0) refl) (λ n. refl))

-- so a refusal is its number and leaves the block, and any other answer is written
pub refused_told : (c : Call) (b : List ℕ) (r : Refusal) → short b ≡ false → (performed c (read b)).answer ≡ Refused r
    → (answer c b ≡ number r) × (after c b ≡ b)
unfolding answer after
refused_told c b r long e =
    let first : first_of (numbered (checks c (read b))) ≡ number r =
    sym (performed_number c (read b)) ∙ ap (λ (a : Answer). (values a).number) e in
    rw (long, first, ne_eqb _ _ (refusal_told r).0) (refl, refl)

no_refusal : (a : Answer) → ((r : Refusal) → a ≡ Refused r → ⊥) → (values a).number ≡ 0
no_refusal (Refused r) h = absurd (h r refl)
no_refusal Done h = refl
no_refusal (Byte byte near) h = refl
no_refusal (Mapped address place win) h = refl
no_refusal (Violation place win) h = refl
no_refusal (Undefined near) h = refl

pub others_told : (c : Call) (b : List ℕ) → short b ≡ false → let o = performed c (read b) in ((r : Refusal) → o.answer ≡ Refused r → ⊥)
    → (answer c b ≡ number_of (values o.answer) o.irq) × (after c b ≡ written b o.system)
others_told c b long h =
    let none : (values (performed c (read b)).answer).number ≡ 0 = no_refusal (performed c (read b)).answer h in
    (long_answer c b long, long_after c b long ∙ rw (eq-eqb _ _ none) refl)

pub record Holds (t : System) (b : List ℕ) : Type 0 where
  pub long : short b ≡ false
  pub reads : read b ≡ t
  pub form : written b t ≡ b

pub form_holds : (t : System) (rest : List ℕ) → Clean t → Holds t (form t ++ rest)
unfolding written
form_holds t rest c =
    let l = length_form t c.shared.entries rest in
    let enough : size ≤ length (form t ++ rest) = simp length-append (omega (arith, l)) in
    let long = le-ltb (length (form t ++ rest)) size enough in
    record {
      long = long;
      reads = system_back t rest c;
      form = rw long (ap (λ (r : List ℕ). form t ++ r) (drop_at (form t) rest size l));
    }

-- ---- whether a call is granted

fits : (c : Call) (b : List ℕ) → first_of (refusals c b) < 2 ^ 8
fits c b = either (λ (n : ℕ). n < 2 ^ 8) (short b) (λ e. lit< tt) (λ e. rw (← performed_number c (read b)) (number_fits c (read b)))

-- an answer tells which refusal it is, or that there is none; a refusal is then all of it, and the block stays
pub told_is : (n : ℕ) (o : Outcome) → n < 2 ^ 8 → (values o.answer).number ≡ 0 → refusal (told n o) ≡ n
told_is n o fits zero = go (eqb n 0) refl
  where
    go : (t : Bool) → eqb n 0 ≡ t → refusal (cond t (number_of (values o.answer) o.irq) n) ≡ n
    go true e = refusal_back (values o.answer) o.irq (omega arith) ∙ zero ∙ sym (eqb-true n 0 e)
    go false e = omega arith

pub told_alone : (n : ℕ) (o : Outcome) (b : List ℕ) → n ≢ 0 → (told n o ≡ n) × (left n o b ≡ b)
told_alone n o b h = (rw (ne_eqb n 0 h) refl, rw (ne_eqb n 0 h) refl)

pub refusal_is : (c : Call) (b : List ℕ) → refusal (answer c b) ≡ first_of (refusals c b)
unfolding answer
refusal_is c b = told_is (first_of (refusals c b)) (carried_out c (read b)) (fits c b) (carried_out_granted c (read b))

first_alone : (c : Call) (b : List ℕ) → first_of (refusals c b) ≢ 0 → (answer c b ≡ first_of (refusals c b)) × (after c b ≡ b)
unfolding answer after
first_alone c b n = told_alone (first_of (refusals c b)) (carried_out c (read b)) b n

pub refused_alone : (c : Call) (b : List ℕ) → refusal (answer c b) ≢ 0 → (answer c b ≡ refusal (answer c b)) × (after c b ≡ b)
refused_alone c b n = rw (refusal_is c b) (first_alone c b (rw (refusal_is c b) at n))

pub record Granted (c : Call) (b : List ℕ) : Type 0 where
  pub long : short b ≡ false
  pub none : first_of (numbered (checks c (read b))) ≡ 0

pub granted_told : (c : Call) (b : List ℕ) → refusal (answer c b) ≡ 0 → Granted c b
granted_told c b e = go (short b) refl (sym (refusal_is c b) ∙ e)
  where
    go : (t : Bool) → short b ≡ t → first_of ((7, t) ∷ numbered (checks c (read b))) ≡ 0 → Granted c b
    go true q e = absurd (omega arith)
    go false q e = record { long = q; none = e }

pub granted_holds : (c : Call) (b : List ℕ) → Granted c b → let t = (performed c (read b)).system in Clean t → Holds t (after c b)
unfolding written
granted_holds c b g k =
    let granted = performed_number c (read b) ∙ g.none in
    rw (long_after c b g.long, g.long, eq-eqb _ _ granted) (form_holds (performed c (read b)).system (drop size b) k)

pub granted_reads : (c : Call) (b : List ℕ) → Granted c b → Bytes b → bus c < 2 ^ 8 → read (after c b) ≡ (performed c (read b)).system
granted_reads c b g h v = (granted_holds c b g (performed_clean c (read b) (read_clean b h) v)).reads

-- ---- one call after another

-- a block that is written twice holds what was written last
written_over : (b : List ℕ) (t u : System) → short b ≡ false → Clean t → written (written b t) u ≡ written b u
unfolding written
written_over b t u long c =
    rw (long, (form_holds t (drop size b) c).long)
    (ap (λ (r : List ℕ). form u ++ r) (drop_at (form t) (drop size b) size (length_form t c.shared.entries (drop size b))))

pub in_a_row : (c d : Call) (b : List ℕ) → Granted c b → let t = (performed c (read b)).system in Clean t → let o = performed d t in
    (answer d (after c b) ≡ number_of (values o.answer) o.irq)
    × (after d (after c b) ≡ cond (eqb (values o.answer).number 0) (written b o.system) (after c b))
in_a_row c d b g k =
    let h = granted_holds c b g k in
    let left : after c b ≡ written b (performed c (read b)).system =
    long_after c b g.long ∙ rw (eq-eqb _ _ (performed_number c (read b) ∙ g.none)) refl in
    let over = ap (λ (e : List ℕ). written e (performed d (performed c (read b)).system).system) left ∙ written_over b _ _ g.long k in (
      rw (long_answer d (after c b) h.long, h.reads) refl,
      rw (long_after d (after c b) h.long, h.reads, over) refl,
    )
