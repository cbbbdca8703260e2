-- Which answers carry a reason, and what it is (specs/Reason.antt).
--     access_reason          a bus access: undefined exactly where nothing matches, and then its answer has what is near and nothing else
--     translation_reason     a direct translation: $FF exactly where nothing matches, and then it does
--     carries_only           no other call, and no other answer of these, carries one
-- Assumes nothing.
use Rattle.std.specs.Prelude.{Option, Some, None, Result, Ok, Err, ok_or, option_map}
use Prim.Native.Nat.{ℕ, ◌+◌, ◌*◌, ◌/◌, ◌%◌, ◌<◌}
use mathlib.Core.Path.{◌≡◌, refl, sym, ap, ◌∙◌}
use mathlib.Core.Logic.{◌≢◌, ◌↔◌}
use mathlib.Core.Bool.{true, false, ◌&&◌, false≢true}
use native.Mathlib.Omega.{arith}
use lib.Dec.{eqb, ltb}
use lib.ListN.{length}
use borrow.Author.Tests.{eqb-true}
use Rattle.descriptors.specs.Descriptor.{protected, matches}
use Rattle.descriptors.specs.declared.descriptor.Descriptor.{Descriptor}
use Rattle.registers.specs.Unit.{flag, word, ac, for_translation}
use Rattle.registers.specs.Shared.{entry}
use Rattle.chip.specs.System.{present, unit, descriptor}
use Rattle.chip.specs.Search.{matching, near_place, searched, place}
use Rattle.chip.specs.Answer.{undefined as undefined_kind, byte_read, values, carrying, named_by, refused, granted}
use Rattle.chip.specs.Access.{writes, match_at}
use Rattle.chip.specs.Prepare.{prepare}
use Rattle.chip.specs.Transfer.{transfer}
use Rattle.chip.specs.Load.{collision, load_at, load}
use Rattle.chip.specs.Translation.{result_at, direct_translation}
use Rattle.chip.specs.Register.{register_at, read, operate}
use Rattle.chip.specs.Call.{performed, carried_out}
use Rattle.chip.specs.Reason.{Unmatched, Carried, MayCarry}
use Rattle.chip.specs.Reason as reason
use Rattle.chip.specs.declared.system.System.{System}
use Rattle.chip.specs.declared.access.Cycle.{Cycle}
use Rattle.chip.specs.declared.register.Register.{Register}
use Rattle.chip.specs.declared.register.Operation.TheVariants as operation
use Rattle.chip.specs.declared.answer.Outcome.{Outcome}
use Rattle.chip.specs.declared.answer.Reading.{Reading}
use Rattle.chip.specs.declared.call.Call.{Call}
use Rattle.chip.specs.declared.call.Call.TheVariants as call
use Rattle.chip.proofs.Checked.{either, refusal_told, outcome_law, translate_law}
use Rattle.chip.proofs.First.{First}
use Rattle.chip.proofs.Once.{matching_found, matching_missed}
use Rattle.chip.proofs.Near.{near_carried}
use Rattle.chip.proofs.Steps.{prepare_places}
use Rattle.chip.proofs.Loading.{prepared, off}
use Rattle.chip.specs.declared.search.Place.{Place}

-- ---- 4.5.3: a bus access

pub record Reasoned (page number : ℕ) (s : System) (o : Outcome) : Type 0 where
  pub unmatched : (values o.answer).kind ≡ undefined_kind → Unmatched page number s
  pub so_undefined : (values o.answer).number ≡ 0 → Unmatched page number s → (values o.answer).kind ≡ undefined_kind
  pub whole : (values o.answer).kind ≡ undefined_kind → values o.answer ≡ carrying undefined_kind (option_map place (near_place page number s)) 0

module _ (code : ℕ) (cycle : Cycle) (address : ℕ) (s : System) where
  abbrev page : ℕ
  page = address / 256

  abbrev number : ℕ
  number = entry s.shared code

  -- where descriptor i matches, some descriptor does
  matched : (i : ℕ) (o : Outcome) → First (λ k. matches (descriptor s k) page number) 0 (0 + 32 * present s) i
      → (values o.answer).kind ≢ undefined_kind → Reasoned page number s o
  matched i o f n = record {
    unmatched = λ e. absurd (n e);
    so_undefined = λ z u. absurd (false≢true (sym (u i (omega (arith, f.high))) ∙ f.here));
    whole = λ e. absurd (n e);
  }

  pub access_reason : Reasoned page number s (performed (call.Access code cycle address) s)
  unfolding match_at refused granted
  access_reason =
      outcome_law (call.Access code cycle address) s (Reasoned page number s)
      (λ r. record { unmatched = λ e. absurd (omega arith); so_undefined = λ z u. absurd ((refusal_told r).0 z); whole = λ e. absurd (omega arith) })
      (λ n.
      translate_law code cycle address s (Reasoned page number s)
      (λ i f.
      either (Reasoned page number s) (writes cycle && protected (descriptor s i))
      (λ w. matched i _ f (λ e. omega arith)) (λ w. matched i _ f (λ e. omega arith)))
      (λ u. record { unmatched = λ e. u; so_undefined = λ z u. refl; whole = λ e. refl }))

-- ---- 4.6.3.3: a direct translation, by unit m's accumulator

pub record Translated (page number : ℕ) (s : System) (r : Reading) : Type 0 where
  pub exactly : (r.byte ≡ 0xFF) ↔ Unmatched page number s
  pub carried : r.byte ≡ 0xFF → let named = named_by r.near in Carried page number s (flag named.2) named.0 named.1

pub translation_reason : (m : ℕ) (s : System) → m < present s → length s.units ≡ 6
    → Translated (word (unit s m) 0) (ac (unit s m) 6) s (direct_translation m s)
unfolding direct_translation searched result_at
translation_reason m s h us =
    let same = prepare_places for_translation m s in
    let values = (prepared for_translation m s h us).same.1 in
    let e : searched (word (unit t m) 0) (ac (unit t m) 6) t ≡ searched page number s = rw (values 0, values 1, values 6, same.0, same.1) refl in
    rw e (go (matching page number s) refl)
  where
    t : System
    t = prepare for_translation m s

    page : ℕ
    page = word (unit s m) 0

    number : ℕ
    number = ac (unit s m) 6

    go : (f : Option ℕ) → matching page number s ≡ f
        → Translated page number s (result_at (ok_or f (option_map place (near_place page number s))) (word (unit t m) 0) t)
    go (Some i) e =
        let f = matching_found s page number i e in
        record {
          exactly = (λ q. absurd (omega arith), λ u. absurd (false≢true (sym (u i (omega (arith, f.high))) ∙ f.here)));
          carried = λ q. absurd (omega arith);
        }
    go None e = record { exactly = (λ q. matching_missed s page number e, λ u. refl); carried = λ q. near_carried page number s }

-- ---- no other answer carries one

-- a read that carries a reason is a direct translation, and answers $FF
record Told (address : ℕ) (r : Reading) : Type 0 where
  where_from : (named_by r.near).2 ≡ true → address ≡ 0x3D
  answers_ff : (named_by r.near).2 ≡ true → r.byte ≡ 0xFF

silent : (address : ℕ) (r : Reading) → r.near ≡ None → Told address r
silent address r e =
    let none : (named_by r.near).2 ≡ false = ap (λ (n : Option Place). (named_by n).2) e in
    record { where_from = λ q. absurd (false≢true (sym none ∙ q)); answers_ff = λ q. absurd (false≢true (sym none ∙ q)) }

translation_told : (x : Result ℕ (Option Place)) (page : ℕ) (s : System) → Told 0x3D (result_at x page s)
unfolding result_at
translation_told (Ok i) p s = silent 0x3D _ refl
translation_told (Err near) p s = record { where_from = λ q. refl; answers_ff = λ q. refl }

load_near : (d : Descriptor) (i : ℕ) (s : System) → (load_at d i s).near ≡ None
unfolding load_at
load_near d i s = either (λ (r : Reading). r.near ≡ None) (collision d (off i s)) (λ e. refl) (λ e. refl)

read_told : (a m : ℕ) (s : System) → Told a (read (register_at a) m s)
unfolding register_at read transfer direct_translation load
read_told a m s =
    either Row (ltb a 0x20) (λ e. either Row (eqb (a % 2) 0) (λ e. silent a _ refl) (λ e. silent a _ refl))
    (λ e. either Row (ltb a 0x29) (λ e. silent a _ refl)
    (λ e. either Row (eqb a 0x29) (λ e. silent a _ refl)
    (λ e. either Row (eqb a 0x2B) (λ e. silent a _ refl)
    (λ e. either Row (eqb a 0x2D) (λ e. silent a _ refl)
    (λ e. either Row (eqb a 0x2F) (λ e. silent a _ refl)
    (λ e. either Row (eqb a 0x31) (λ e. silent a _ refl)
    (λ e. either Row (eqb a 0x39) (λ e. silent a _ refl)
    (λ e. either Row (eqb a 0x3B) (λ e. silent a _ refl)
    (λ e. either Row (eqb a 0x3D) (λ e. rw (eqb-true a 0x3D e) (translation_told _ _ _))
    (λ e. either Row (eqb a 0x3F) (λ e. silent a _ (load_near _ _ _)) (λ e. silent a _ refl)))))))))))
  where
    Row : Register → Type 0
    Row r = Told a (read r m s)

pub carries_only : (c : Call) (s : System) → (values (performed c s).answer).near ≡ true
    → MayCarry (values (performed c s).answer).kind (values (performed c s).answer).byte c
unfolding refused granted operate match_at
carries_only c s = outcome_law c s (Only c) (λ r q. absurd (false≢true q)) (λ n. go c)
  where
    Only : Call → Outcome → Type 0
    Only c o = (values o.answer).near ≡ true → MayCarry (values o.answer).kind (values o.answer).byte c

    by_translation : (m address byte : ℕ) → address ≡ 0x3D → byte ≡ 0xFF → MayCarry byte_read byte (call.Register m address operation.Read)
    by_translation m address byte e f = rw e (reason.by_translation refl f)

    go : (c : Call) → Only c (carried_out c s)
    go (call.Start count selected) = λ q. absurd (false≢true q)
    go (call.Reset selected) = λ q. absurd (false≢true q)
    go (call.Access code cycle address) =
        translate_law code cycle address s (Only (call.Access code cycle address))
        (λ i f.
        either (Only (call.Access code cycle address)) (writes cycle && protected (descriptor s i))
        (λ e q. absurd (false≢true q)) (λ e q. absurd (false≢true q)))
        (λ u q. reason.by_access refl)
    go (call.Register m address operation.Read) = λ q.
        let told = read_told address m s in
        by_translation m address _ (told.where_from q) (told.answers_ff q)
    go (call.Register m address (operation.Write value)) = λ q. absurd (false≢true q)
    go (call.Acknowledge m) = λ q. absurd (false≢true q)
