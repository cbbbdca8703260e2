-- A read-modify-write and its halves, the read and then the write of document 01.
--     modify_undefined    an undefined one is the read alone
--     modify_halves       any other is the write after the read, the answer and the system
-- Assumes nothing.
use Rattle.std.specs.Prelude.{Option, Some, None, Result, ok_or, option_map}
use Prim.Native.Nat.{ℕ, ◌/◌, ◌%◌, ◌*◌, ◌<◌, ◌^◌}
use mathlib.Core.Path.{◌≡◌, refl, sym, ap, ◌∙◌}
use mathlib.Core.Logic.{◌≢◌}
use mathlib.Core.Bool.{Bool, true, false}
use mathlib.Core.List.{List}
use native.Mathlib.Omega.{arith}
use borrow.Author.Tests.{eqb-true, eqb-false}
use lib.Dec.{lit<, eqb}
use lib.ListN.{length}
use lib.Seq.{set-set}
use Rattle.descriptors.specs.Status.{WP, used}
use Rattle.descriptors.specs.Descriptor.{protected, matches, with_ssr}
use Rattle.descriptors.proofs.Enable.{used_e}
use Rattle.descriptors.proofs.Clean.{status_fits}
use Rattle.descriptors.proofs.Raised.{used_raised, used_twice}
use Rattle.descriptors.specs.declared.descriptor.Descriptor.{Descriptor}
use Rattle.registers.specs.Shared.{entry}
use Rattle.chip.specs.System.{present, descriptor, with_descriptor}
use Rattle.chip.specs.Search.{matching, near_place, searched, place}
use Rattle.chip.specs.Answer.{undefined as undefined_kind, values, first_of, numbered, granted}
use Rattle.chip.specs.Access.{touch, read_half, undefined, match_at, translate_at, translate}
use Rattle.chip.specs.Call.{checks, performed}
use Rattle.chip.specs.Clean.{Clean}
use Rattle.chip.specs.declared.system.System.{System}
use Rattle.chip.specs.declared.access.Cycle.{Cycle}
use Rattle.chip.specs.declared.access.Cycle.TheVariants.{Read, Write, ReadModifyWrite}
use Rattle.chip.specs.declared.answer.Outcome.{Outcome}
use Rattle.chip.specs.declared.call.Call.{Call}
use Rattle.chip.specs.declared.call.Call.TheVariants.{Access}
use Rattle.chip.proofs.Checked.{either, performed_granted, refused_system, refused_alike}
use Rattle.chip.proofs.First.{first_at}
use Rattle.chip.proofs.Once.{matching_found}
use Rattle.chip.proofs.Parts.{descriptor_there, descriptor_elsewhere}
use Rattle.chip.specs.declared.search.Place.{Place}

-- ---- a segment that was read, at place i

-- its status apart it is the same, and it is matched and protected as before
used_matches : (d : Descriptor) (page number : ℕ) → matches (with_ssr d (used d.ssr)) page number ≡ matches d page number
unfolding matches
used_matches d page number = rw (used_e d.ssr) refl

used_protected : (d : Descriptor) → protected (with_ssr d (used d.ssr)) ≡ protected d
used_protected d = (used_raised d.ssr).others WP (lit< tt) (λ e. omega arith) (λ e. omega arith) (λ e. omega arith)

module _ (i : ℕ) (s : System) (h : i < length s.descriptors) where
  abbrev after_read : System
  after_read = touch Read i s

  there : descriptor after_read i ≡ with_ssr (descriptor s i) (used (descriptor s i).ssr)
  there = descriptor_there s i _ h

  matched_again : (page number : ℕ) → matching page number s ≡ Some i → matching page number after_read ≡ Some i
  unfolding with_descriptor
  matched_again page number e =
      let f = matching_found s page number i e in
      first_at (λ k. matches (descriptor after_read k) page number) 0 (32 * present s) i (omega arith) (omega (arith, f.high))
      (λ k a b. ap (λ (d : Descriptor). matches d page number) (descriptor_elsewhere s i k _ (λ z. omega arith)) ∙ f.before k a b)
      (rw there (used_matches (descriptor s i) page number ∙ f.here))

  written_again : (descriptor s i).ssr < 2 ^ 8 → touch Write i after_read ≡ touch ReadModifyWrite i s
  unfolding with_descriptor
  written_again fits =
      let d = descriptor s i in
      rw (there, used_twice d.ssr fits)
      (ap (λ (ds : List Descriptor). record { descriptors = ds; units = s.units; shared = s.shared }) (set-set s.descriptors i _ _))

  write_after_read : (page number offset : ℕ) → (descriptor s i).ssr < 2 ^ 8
      → match_at i Write page number offset after_read ≡ match_at i ReadModifyWrite page number offset s
  unfolding match_at read_half
  write_after_read page number offset fits =
      rw (written_again fits, there, used_protected (descriptor s i)) refl

-- ---- the calls

module _ (code address : ℕ) (s : System) where
  abbrev by : Cycle → Call
  by cycle = Access code cycle address

  abbrev page : ℕ
  page = address / 256

  abbrev number : ℕ
  number = entry s.shared code

  abbrev found_at : Option ℕ → Result ℕ (Option Place)
  found_at f = ok_or f (option_map place (near_place page number s))

  -- the checks of an access do not ask for its cycle
  abbrev refusal : ℕ
  refusal = first_of (numbered (checks (by Read) s))

  refused_by_all : refusal ≢ 0 → (a b : Cycle) → performed (by a) s ≡ performed (by b) s
  unfolding performed
  refused_by_all n a b = refused_alike (checks (by Read) s) s _ _ n

  pub modify_undefined : (values (performed (by ReadModifyWrite) s).answer).kind ≡ undefined_kind
      → performed (by ReadModifyWrite) s ≡ performed (by Read) s
  unfolding translate translate_at searched match_at undefined granted
  modify_undefined u = go (eqb refusal 0) refl
    where
      alone : (f : Option ℕ) → (values (translate_at (found_at f) ReadModifyWrite page number (address % 256) s).answer).kind ≡ undefined_kind
          → translate_at (found_at f) ReadModifyWrite page number (address % 256) s ≡ translate_at (found_at f) Read page number (address % 256) s
      alone (Some i) =
          either (λ (o : Outcome). (values o.answer).kind ≡ undefined_kind → o ≡ match_at i Read page number (address % 256) s)
          (protected (descriptor s i)) (λ p k. absurd (omega arith)) (λ p k. absurd (omega arith))
      alone None = λ k. refl

      go : (b : Bool) → eqb refusal 0 ≡ b → performed (by ReadModifyWrite) s ≡ performed (by Read) s
      go true q =
          let granted = eqb-true refusal 0 q in
          let e = (performed_granted (by ReadModifyWrite) s granted).1 in
          e ∙ alone (matching page number s) (rw e at u) ∙ sym (performed_granted (by Read) s granted).1
      go false q = refused_by_all (eqb-false refusal 0 q) ReadModifyWrite Read

  pub modify_halves : Clean s → (values (performed (by ReadModifyWrite) s).answer).kind ≢ undefined_kind
      → performed (by ReadModifyWrite) s ≡ performed (by Write) (performed (by Read) s).system
  unfolding translate translate_at searched match_at granted with_descriptor
  modify_halves c u = go (eqb refusal 0) refl
    where
      both : (f : Option ℕ) → matching page number s ≡ f → refusal ≡ 0
          → (values (translate_at (found_at f) ReadModifyWrite page number (address % 256) s).answer).kind ≢ undefined_kind
          → translate_at (found_at f) ReadModifyWrite page number (address % 256) s ≡ performed (by Write) (translate_at (found_at f) Read page number (address % 256) s).system
      both (Some i) e granted k =
          let inside : i < 32 * present s = omega (arith, (matching_found s page number i e).high) in
          let there : i < length s.descriptors = omega (arith, c.places.1) in
          let fits = status_fits (descriptor s i).ssr (c.descriptors i inside).ssr in
          sym
          ((performed_granted (by Write) (touch Read i s) granted).1
          ∙ ap
          (λ (f : Option ℕ). translate_at (ok_or f (option_map place (near_place page number (touch Read i s)))) Write page number (address % 256) (touch Read i s))
          (matched_again i s there page number e)
          ∙ write_after_read i s there page number (address % 256) fits)
      both None e granted k = absurd (k refl)

      go : (b : Bool) → eqb refusal 0 ≡ b → performed (by ReadModifyWrite) s ≡ performed (by Write) (performed (by Read) s).system
      go true q =
          let granted = eqb-true refusal 0 q in
          let e = (performed_granted (by ReadModifyWrite) s granted).1 in
          let f = (performed_granted (by Read) s granted).1 in
          rw (e, f) (both (matching page number s) refl granted (rw e at u))
      go false q =
          let n = eqb-false refusal 0 q in
          rw (refused_system (by Read) s n) (refused_by_all n ReadModifyWrite Write)
