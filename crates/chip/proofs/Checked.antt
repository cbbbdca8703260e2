-- The checks of a call, in one law: where none applies the call is carried out; else it is the refusal of the first that does, which
-- leaves the system.
--     either               what holds of both branches, each with how it came about
--     refusal_told         a refusal's number is told from that of a granted call, and is a byte
--     checks_law           what holds of every refusal with its number, and with 0 where no check applies, holds of the call's outcome
--                          with the table's number
--     outcome_law, performed_law      so of the outcome alone, and of the system that the call leaves
--     translate_law        what holds where a descriptor matches, and where none does, holds of an access
--     carried_out_granted  past its checks a call is granted
--     performed_number     the outcome tells the table's number
--     performed_granted    where that is 0, the call is carried out
--     performed_irq        and gives IRQ as it stands afterwards
--     acknowledged         an acknowledge that passes its checks finds IRQ asserted
--     refused_system       where it is not, the system is as it was
--     refused_alike        and what the call would do makes no difference
-- Assumes nothing.
use Rattle.std.specs.Prelude.{Option, Some, None, ok_or, option_map}
use Rattle.std.proofs.Common.{not, Ok, Err, is_ok, ap, sym, true≢false}
use Prim.Native.Nat.{ℕ, ◌+◌, ◌*◌, ◌/◌, ◌%◌, ◌<◌, ◌^◌}
use mathlib.Core.Path.{◌≡◌, refl}
use mathlib.Core.Logic.{◌≢◌}
use mathlib.Core.Bool.{Bool, true, false, ◌&&◌, cond}
use mathlib.Core.List.{List, [], ◌∷◌}
use native.Mathlib.Omega.{arith}
use lib.Dec.{lit<}
use Rattle.descriptors.specs.Descriptor.{protected, matches}
use Rattle.registers.specs.Shared.{entry}
use Rattle.chip.specs.System.{present, descriptor}
use Rattle.chip.specs.Search.{matching, near_place, searched, irq, place}
use Rattle.chip.specs.Answer.{number, values, refused, granted, checked, passed, miscounted, absent, first_of, numbered}
use Rattle.chip.specs.Access.{writes, undefined, match_at, translate_at, translate}
use Rattle.chip.specs.Register.{operate}
use Rattle.chip.specs.Call.{checks, carried_out, performed}
use Rattle.chip.specs.Reason.{Unmatched}
use Rattle.chip.specs.declared.system.System.{System}
use Rattle.chip.specs.declared.access.Cycle.{Cycle}
use Rattle.chip.specs.declared.register.Operation.TheVariants as operation
use Rattle.chip.specs.declared.answer.Refusal.{Refusal}
use Rattle.chip.specs.declared.answer.Refusal.TheVariants as refusal
use Rattle.chip.specs.declared.answer.Answer.{Answer}
use Rattle.chip.specs.declared.answer.Answer.TheVariants.{Undefined}
use Rattle.chip.specs.declared.answer.Outcome.{Outcome}
use Rattle.chip.specs.declared.call.Call.{Call}
use Rattle.chip.specs.declared.call.Call.TheVariants as call
use Rattle.chip.proofs.First.{First}
use Rattle.chip.proofs.Once.{matching_found, matching_missed}

pub either : {A : Type 0} (P : A → Type 0) (b : Bool) {x y : A} → (b ≡ true → P x) → (b ≡ false → P y) → P (cond b x y)
either P true h k = h refl
either P false h k = k refl

pub refusal_told : (r : Refusal) → (number r ≢ 0) × (number r < 2 ^ 8)
refusal_told refusal.Count = (λ e. omega arith, omega arith)
refusal_told refusal.Unit = (λ e. omega arith, omega arith)
refusal_told refusal.Register = (λ e. omega arith, omega arith)
refusal_told refusal.FunctionCode = (λ e. omega arith, omega arith)
refusal_told refusal.Address = (λ e. omega arith, omega arith)
refusal_told refusal.Interrupt = (λ e. omega arith, omega arith)

abbrev pub NoneOf : List (Refusal × Bool) → Type 0
NoneOf [] = Unit
NoneOf (c ∷ cs) = (c.1 ≡ false) × NoneOf cs

checked_law : (P : ℕ → Outcome → Type 0) (cs : List (Refusal × Bool)) (s : System) (o : Outcome)
    → ((r : Refusal) → P (number r) (refused r s)) → (NoneOf cs → P 0 o) → P (first_of (numbered cs)) (checked cs s o)
checked_law P [] s o h k = k tt
checked_law P (c ∷ cs) s o h k = go c.1 (h c.0) (λ e. checked_law P cs s o h (λ n. k (e, n)))
  where
    go : (b : Bool) → P (number c.0) (refused c.0 s) → (b ≡ false → P (first_of (numbered cs)) (checked cs s o))
        → P (cond b (number c.0) (first_of (numbered cs))) (cond b (refused c.0 s) (checked cs s o))
    go true here later = here
    go false here later = later refl

module _ (c : Call) (s : System) where
  pub checks_law : (P : ℕ → Outcome → Type 0) → ((r : Refusal) → P (number r) (refused r s))
      → (NoneOf (checks c s) → P 0 (carried_out c s)) → P (first_of (numbered (checks c s))) (performed c s)
  unfolding performed
  checks_law P h k = checked_law P (checks c s) s (carried_out c s) h k

  pub outcome_law : (P : Outcome → Type 0) → ((r : Refusal) → P (refused r s)) → (NoneOf (checks c s) → P (carried_out c s))
      → P (performed c s)
  outcome_law P = checks_law (λ n. P)

  pub performed_law : (P : System → Type 0) → P s → (NoneOf (checks c s) → P (carried_out c s).system) → P (performed c s).system
  unfolding refused
  performed_law P h k = outcome_law (λ (o : Outcome). P o.system) (λ r. h) k

pub translate_law : (code : ℕ) (cycle : Cycle) (address : ℕ) (s : System) (P : Outcome → Type 0)
    → let page = address / 256 in let number = entry s.shared code in
    ((i : ℕ) → First (λ k. matches (descriptor s k) page number) 0 (0 + 32 * present s) i → P (match_at i cycle page number (address % 256) s))
    → (Unmatched page number s → P (granted (Undefined (option_map place (near_place page number s))) (undefined cycle page number s)))
    → P (translate code cycle address s)
unfolding translate translate_at searched
translate_law code cycle address s P here nowhere = go (matching page number s) refl
  where
    page : ℕ
    page = address / 256

    number : ℕ
    number = entry s.shared code

    go : (f : Option ℕ) → matching page number s ≡ f
        → P (translate_at (ok_or f (option_map place (near_place page number s))) cycle page number (address % 256) s)
    go (Some i) e = here i (matching_found s page number i e)
    go None e = nowhere (matching_missed s page number e)

-- an answer that is no refusal, with IRQ as it stands in the system that is left
record IsGranted (o : Outcome) : Type 0 where
  number : (values o.answer).number ≡ 0
  asserted : o.irq ≡ irq o.system

granted_is : (a : Answer) (s : System) → (values a).number ≡ 0 → IsGranted (granted a s)
unfolding granted
granted_is a s e = record { number = e; asserted = refl }

is_granted : (c : Call) (s : System) → IsGranted (carried_out c s)
unfolding operate match_at
is_granted (call.Start count selected) s = granted_is _ _ refl
is_granted (call.Reset selected) s = granted_is _ _ refl
is_granted (call.Access code cycle address) s =
    translate_law code cycle address s IsGranted
    (λ i f. either IsGranted (writes cycle && protected (descriptor s i)) (λ e. granted_is _ _ refl) (λ e. granted_is _ _ refl))
    (λ u. granted_is _ _ refl)
is_granted (call.Register m address operation.Read) s = granted_is _ _ refl
is_granted (call.Register m address (operation.Write value)) s = granted_is _ _ refl
is_granted (call.Acknowledge m) s = granted_is _ _ refl

pub carried_out_granted : (c : Call) (s : System) → (values (carried_out c s).answer).number ≡ 0
carried_out_granted c s = (is_granted c s).number

module _ (c : Call) (s : System) where
  pub performed_number : (values (performed c s).answer).number ≡ first_of (numbered (checks c s))
  unfolding refused
  performed_number = checks_law c s (λ n (o : Outcome). (values o.answer).number ≡ n) (λ r. refl) (λ n. carried_out_granted c s)

  pub number_fits : (values (performed c s).answer).number < 2 ^ 8
  unfolding refused
  number_fits =
      outcome_law c s (λ (o : Outcome). (values o.answer).number < 2 ^ 8) (λ r. (refusal_told r).1) (λ n. rw (carried_out_granted c s) (lit< tt))

  pub performed_granted : first_of (numbered (checks c s)) ≡ 0 → NoneOf (checks c s) × (performed c s ≡ carried_out c s)
  performed_granted =
      checks_law c s (λ n o. n ≡ 0 → NoneOf (checks c s) × (o ≡ carried_out c s)) (λ r e. absurd ((refusal_told r).0 e)) (λ n e. (n, refl))

  pub performed_irq : first_of (numbered (checks c s)) ≡ 0 → (performed c s).irq ≡ irq (performed c s).system
  performed_irq e = rw (performed_granted e).1 (is_granted c s).asserted

  pub refused_system : first_of (numbered (checks c s)) ≢ 0 → (performed c s).system ≡ s
  unfolding refused
  refused_system = checks_law c s (λ n (o : Outcome). n ≢ 0 → o.system ≡ s) (λ r n. refl) (λ k n. absurd (n refl))

pub refused_alike : (cs : List (Refusal × Bool)) (s : System) (o p : Outcome) → first_of (numbered cs) ≢ 0 → checked cs s o ≡ checked cs s p
refused_alike [] s o p = λ n. absurd (n refl)
refused_alike (c ∷ cs) s o p = go c.1 (refused_alike cs s o p)
  where
    go : (b : Bool) → (first_of (numbered cs) ≢ 0 → checked cs s o ≡ checked cs s p)
        → cond b (number c.0) (first_of (numbered cs)) ≢ 0
        → cond b (refused c.0 s) (checked cs s o) ≡ cond b (refused c.0 s) (checked cs s p)
    go true later n = refl
    go false later n = later n

pub acknowledged : (unit : ℕ) (s : System) → passed (checks (call.Acknowledge unit) s) ≡ Ok tt → irq s ≡ true
acknowledged unit s = go (miscounted s.shared.board.count) (absent unit s.shared.board.count) (irq s)
  where
    go : (a b i : Bool) → passed ((refusal.Count, a) ∷ (refusal.Unit, b) ∷ (refusal.Interrupt, not i) ∷ []) ≡ Ok tt → i ≡ true
    go true b i e = absurd (true≢false (sym (ap is_ok e)))
    go false true i e = absurd (true≢false (sym (ap is_ok e)))
    go false false false e = absurd (true≢false (sym (ap is_ok e)))
    go false false true e = refl
