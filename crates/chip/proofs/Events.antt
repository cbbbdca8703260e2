-- What each event leaves in every unit is what the table says (specs/Event.antt).
--     access_leaves                           the faults, by what a bus access answers
--     granted_leaves, refused_leaves          a load, and of a refused one where each unit's lowest collision is
--     translation_leaves                      a direct translation
-- Assumes nothing.
use Rattle.std.specs.Prelude.{Option, Some, None, Result, Ok, Err, is_some, ok_or, option_map}
use Prim.Native.Nat.{ℕ, ◌+◌, ◌*◌, ◌-◌, ◌/◌, ◌%◌, ◌<◌}
use mathlib.Core.Path.{◌≡◌, refl, sym, ap, ◌∙◌}
use mathlib.Core.Logic.{◌≢◌}
use mathlib.Core.Bool.{Bool, true, false, ◌&&◌, cond, false≢true, and-eq-true_iff}
use native.Mathlib.Omega.{arith}
use lib.Dec.{eqb}
use lib.ListN.{length}
use borrow.Author.Tests.{eqb-true, eqb-false}
use Rattle.descriptors.specs.Descriptor.{enabled, protected, collides, physical_page}
use Rattle.descriptors.specs.declared.descriptor.Descriptor.{Descriptor}
use Rattle.registers.specs.Unit.{WV, report, latch, translated, with_rw, word, ac, segment, for_load, for_translation}
use Rattle.registers.specs.Shared.{entry, faulted}
use Rattle.registers.specs.declared.unit.Unit.{Unit}
use Rattle.registers.specs.declared.shared.Shared.{Shared}
use Rattle.chip.specs.System.{present, unit, descriptor, pointed, with_units, with_shared, with_descriptor, with_unit, in_all}
use Rattle.chip.specs.Search.{in_system, in_unit, matching, near_place, searched, place}
use Rattle.chip.specs.Answer.{violating, undefined as undefined_kind, values, refused, granted}
use Rattle.chip.specs.Access.{reads_first, writes, read_half, fault, violation, undefined, match_at}
use Rattle.chip.specs.Prepare.{prepare}
use Rattle.chip.specs.Load.{blame, CollidesWith, collision, load_at, load}
use Rattle.chip.specs.Translation.{result_at, direct_translation}
use Rattle.chip.specs.Call.{performed}
use Rattle.chip.specs.Event.{status, leaves, Left, Lowest}
use Rattle.chip.specs.Event as event
use Rattle.chip.specs.declared.system.System.{System}
use Rattle.chip.specs.declared.access.Cycle.{Cycle}
use Rattle.chip.specs.declared.answer.Reading.{Reading}
use Rattle.chip.specs.declared.answer.Outcome.{Outcome}
use Rattle.chip.specs.declared.call.Call.TheVariants as call
use Rattle.chip.proofs.Checked.{either, outcome_law, translate_law}
use Rattle.chip.proofs.Each.{length_each}
use Rattle.chip.proofs.First.{first_found, first_missed}
use Rattle.chip.proofs.Parts.{each_unit, unit_there, unit_elsewhere}
use Rattle.chip.proofs.Once.{matching_found}
use Rattle.chip.proofs.Steps.{prepare_places}
use Rattle.chip.proofs.Loading.{prepared, load_is, load_shared, off, collides_law}
use Rattle.chip.specs.declared.search.Place.{Place}

abbrev Six : System → Type 0
Six s = length s.units ≡ 6

-- what was done to all units was done to unit k
done : (f : Unit → Unit) (s : System) → Six s → (k : ℕ) → k < present s → unit (in_all f s) k ≡ f (unit s k)
done f s us k h = each_unit s (λ m. f) k h (omega arith)

six : (f : Unit → Unit) (s : System) → Six s → Six (in_all f s)
unfolding with_units
six f s us = length_each (present s) (λ m. f) s.units ∙ us

-- and then f to unit m alone
one_more : (g f : Unit → Unit) (s : System) → Six s → (m k : ℕ) → m < present s → k < present s → let t = in_all g s in
    status (unit (with_unit t m (f (unit t m))) k) ≡ cond (eqb k m) (status (f (g (unit s k)))) (status (g (unit s k)))
unfolding with_units
one_more g f s us m k h l = go (eqb k m) refl
  where
    t : System
    t = in_all g s

    go : (b : Bool) → eqb k m ≡ b → status (unit (with_unit t m (f (unit t m))) k) ≡ cond b (status (f (g (unit s k)))) (status (g (unit s k)))
    go true q = rw (eqb-true k m q, unit_there t m (f (unit t m)) (omega (arith, six g s us)), done g s us m h) refl
    go false q = rw (unit_elsewhere t m k (f (unit t m)) (eqb-false k m q), done g s us k l) refl

-- ---- 4.5.3: the faults

fault_unit : (rw : Bool) (s : System) → Six s → (k : ℕ) → k < present s → unit (fault rw s) k ≡ with_rw (unit s k) rw
unfolding fault with_shared
fault_unit rw s us k h = done (λ u. with_rw u rw) s us k h

fault_six : (rw : Bool) (s : System) → Six s → Six (fault rw s)
unfolding fault with_shared
fault_six rw s us = six _ s us

violation_leaves : (page number m n : ℕ) (s : System) → Six s → m < present s
    → (k : ℕ) → k < present s → status (unit (violation page number m n s) k) ≡ leaves (event.write_violation m n) k (unit s k).rw
unfolding violation fault with_shared with_units
violation_leaves page number m n s us h k l =
    one_more _ (λ u. report WV n (latch page number u)) (fault false s) (fault_six false s us) m k h l ∙ rw (fault_unit false s us k l) refl

undefined_leaves : (cycle : Cycle) (page number : ℕ) (s : System) → Six s
    → (k : ℕ) → k < present s → status (unit (undefined cycle page number s) k) ≡ leaves (event.undefined_access (reads_first cycle)) k (unit s k).rw
unfolding undefined fault with_shared with_units
undefined_leaves cycle page number s us k h =
    let t = fault (reads_first cycle) s in
    let latched = done (latch page number) t (fault_six (reads_first cycle) s us) k h in
    ap status (done _ (in_all (latch page number) t) (six _ t (fault_six (reads_first cycle) s us)) k h)
    ∙ rw (latched, fault_unit (reads_first cycle) s us k h) refl

-- each is counted once
violation_counts : (page number m n : ℕ) (s : System) → (violation page number m n s).shared.gsr ≡ faulted s.shared.gsr
unfolding violation fault with_shared with_units
violation_counts page number m n s = refl

undefined_counts : (cycle : Cycle) (page number : ℕ) (s : System) → (undefined cycle page number s).shared.gsr ≡ faulted s.shared.gsr
unfolding undefined fault with_shared with_units
undefined_counts cycle page number s = refl

-- a bus access, by what it answers
pub record Faults (cycle : Cycle) (s : System) (o : Outcome) : Type 0 where
  pub violating : (values o.answer).kind ≡ violating
      → Left (event.write_violation (values o.answer).unit (values o.answer).descriptor) s o.system
  pub undefined : (values o.answer).kind ≡ undefined_kind → Left (event.undefined_access (reads_first cycle)) s o.system

pub access_leaves : (code : ℕ) (cycle : Cycle) (address : ℕ) (s : System) → Six s → Faults cycle s (performed (call.Access code cycle address) s)
unfolding match_at read_half refused granted with_descriptor
access_leaves code cycle address s us =
    let page = address / 256 in
    let number = entry s.shared code in
    outcome_law (call.Access code cycle address) s (Faults cycle s) (λ r. record { violating = λ e. absurd (omega arith); undefined = λ e. absurd (omega arith) })
    (λ n.
    translate_law code cycle address s (Faults cycle s)
    (λ i f.
    let violated : (t : System) → t.units ≡ s.units → t.shared ≡ s.shared
    → Left (event.write_violation (i / 32) (i % 32)) s (violation page number (i / 32) (i % 32) t) =
    λ t u h. record {
      units = λ k l. violation_leaves page number (i / 32) (i % 32) t (rw u us) (rw h (omega (arith, f.high))) k (rw h l);
      gsr = violation_counts page number (i / 32) (i % 32) t ∙ rw h refl;
    } in
    either (Faults cycle s) (writes cycle && protected (descriptor s i))
    (λ w. record {
      violating = λ v.
          either (λ (t : System). Left (event.write_violation (i / 32) (i % 32)) s (violation page number (i / 32) (i % 32) t)) (reads_first cycle)
          (λ r. violated _ refl refl) (λ r. violated s refl refl);
      undefined = λ v. absurd (omega arith);
    })
    (λ w. record { violating = λ v. absurd (omega arith); undefined = λ v. absurd (omega arith) }))
    (λ u. record {
      violating = λ v. absurd (omega arith);
      undefined = λ v. record { units = undefined_leaves cycle page number s us; gsr = undefined_counts cycle page number s };
    }))

-- ---- 4.6.3.2: a load

blamed : (k : ℕ) (f : Option ℕ) (u : Unit) → status (blame f u) ≡ leaves (event.load_refused (λ j. f)) k u.rw
blamed k (Some i) u = refl
blamed k None u = refl

module _ (d : Descriptor) (i : ℕ) (s : System) where
  -- where each unit's lowest collision is
  abbrev lowest : ℕ → Option ℕ
  lowest k = in_unit (collides d) k (off i s)

  load_at_leaves : Six s → (k : ℕ) → k < present s → let r = load_at d i s in
      (r.byte ≢ 0xFF → status (unit r.system k) ≡ leaves event.load_granted k (unit s k).rw)
      × (r.byte ≡ 0xFF → (enabled d ≡ true) × (status (unit r.system k) ≡ leaves (event.load_refused lowest) k (unit s k).rw))
  unfolding load_at with_descriptor
  load_at_leaves us k h =
      either
      (λ (r : Reading). (r.byte ≢ 0xFF → status (unit r.system k) ≡ leaves event.load_granted k (unit s k).rw)
      × (r.byte ≡ 0xFF → (enabled d ≡ true) × (status (unit r.system k) ≡ leaves (event.load_refused lowest) k (unit s k).rw)))
      (collision d (off i s))
      (λ c. (λ n. absurd (n refl), λ e. (((and-eq-true_iff (enabled d) (is_some (in_system (collides d) (off i s)))).0 c).0, ap status (each_unit (off i s) _ k h (omega arith)) ∙ blamed k (lowest k) (unit s k))))
      (λ c. (λ n. ap status (done _ (with_descriptor (off i s) i d) us k h), λ e. absurd (omega arith)))

  lowest_law : i < length s.descriptors → enabled d ≡ true → (k : ℕ) → Lowest d i k s (lowest k)
  lowest_law there asks k = go (lowest k) refl
    where
      none_there : (j : ℕ) → collides d (descriptor (off i s) j) ≡ false → CollidesWith d i j s → ⊥
      none_there j e c = false≢true (sym e ∙ (collides_law d i s there asks j).1 c)

      go : (f : Option ℕ) → lowest k ≡ f → Lowest d i k s f
      go (Some j) e =
          let f = first_found (λ j. collides d (descriptor (off i s) j)) (32 * k) 32 j e in
          let low = f.low in
          let high = f.high in
          (j - 32 * k, omega arith, omega arith, (collides_law d i s there asks j).0 f.here, λ l h. none_there (32 * k + l) (f.before (32 * k + l) (omega arith) (omega arith)))
      go None e = λ n h.
          none_there (32 * k + n) (first_missed (λ j. collides d (descriptor (off i s) j)) (32 * k) 32 e (32 * k + n) (omega arith) (omega arith))

-- where the collisions are depends on the descriptors alone
lowest_same : (d : Descriptor) (i k : ℕ) (s t : System) → t.descriptors ≡ s.descriptors → (f : Option ℕ) → Lowest d i k t f → Lowest d i k s f
unfolding CollidesWith
lowest_same d i k s t e (Some j) l = rw e at l
lowest_same d i k s t e None l = rw e at l

-- ---- 4.6.3.3: a direct translation

result_leaves : (f : Option ℕ) (near : Option Place) (page : ℕ) (s : System) → Six s → ((i : ℕ) → f ≡ Some i → i / 32 < present s)
    → (k : ℕ) → k < present s → status (unit (result_at (ok_or f near) page s).system k) ≡ leaves (event.translation f) k (unit s k).rw
unfolding result_at with_units
result_leaves (Some i) near page s us there k h =
    one_more _ (translated (physical_page (descriptor s i) page) (i % 32)) s us (i / 32) k (there i refl) h
result_leaves None near page s us there k h = ap status (done _ s us k h)

result_shared : (x : Result ℕ (Option Place)) (page : ℕ) (s : System) → (result_at x page s).system.shared ≡ s.shared
unfolding result_at with_units
result_shared (Ok i) page s = refl
result_shared (Err near) page s = refl

-- ---- both, by unit m's accumulator

module _ (m : ℕ) (s : System) (h : m < present s) (us : length s.units ≡ 6) where
  module _ (k : ℕ) (l : k < present s) where
    loads : let r = load m s in
        (r.byte ≢ 0xFF → status (unit r.system k) ≡ leaves event.load_granted k (unit s k).rw)
        × (r.byte ≡ 0xFF → (enabled (segment (unit s m)) ≡ true)
        × (status (unit r.system k) ≡ leaves (event.load_refused (lowest (segment (unit s m)) (pointed m s) (prepare for_load m s))) k (unit s k).rw))
    loads =
        let p = prepared for_load m s h us in
        rw (load_is m s h us, ← p.rw k l)
        (load_at_leaves (segment (unit s m)) (pointed m s) (prepare for_load m s) p.six k (rw (prepare_places for_load m s).1 l))

  pub granted_leaves : length s.descriptors ≡ 192 → (load m s).byte ≢ 0xFF → Left event.load_granted s (load m s).system
  granted_leaves ds n = record { units = λ k l. (loads k l).0 n; gsr = ap (λ (h : Shared). h.gsr) (load_shared m s h us ds) }

  pub refused_leaves : length s.descriptors ≡ 192 → (load m s).byte ≡ 0xFF
      → (lowest : ℕ → Option ℕ) × ((k : ℕ) → Lowest (segment (unit s m)) (pointed m s) k s (lowest k)) × Left (event.load_refused lowest) s (load m s).system
  refused_leaves ds e =
      let p = prepare for_load m s in
      let same = (prepare_places for_load m s).0 in (
        lowest (segment (unit s m)) (pointed m s) p,
        λ k. lowest_same (segment (unit s m)) (pointed m s) k s p same (lowest (segment (unit s m)) (pointed m s) p k) (lowest_law (segment (unit s m)) (pointed m s) p (rw same (omega arith)) ((loads m h).1 e).0 k),
        record { units = λ k l. ((loads k l).1 e).1; gsr = ap (λ (h : Shared). h.gsr) (load_shared m s h us ds) },
      )

  pub translation_leaves : Left (event.translation (matching (word (unit s m) 0) (ac (unit s m) 6) s)) s (direct_translation m s).system
  unfolding direct_translation searched
  translation_leaves =
      let t = prepare for_translation m s in
      let same = prepare_places for_translation m s in
      let p = prepared for_translation m s h us in
      let values = p.same.1 in
      let near = option_map place (near_place (word (unit t m) 0) (ac (unit t m) 6) t) in
      let f = matching (word (unit s m) 0) (ac (unit s m) 6) s in
      let e : matching (word (unit t m) 0) (ac (unit t m) 6) t ≡ f = rw (values 0, values 1, values 6, same.0, same.1) refl in
      let there : (i : ℕ) → f ≡ Some i → i / 32 < present t =
      λ i q. rw same.1 (omega (arith, (matching_found s (word (unit s m) 0) (ac (unit s m) 6) i q).high)) in
      record {
        units = λ k l.
            ap (λ (f : Option ℕ). status (unit (result_at (ok_or f near) (word (unit t m) 0) t).system k)) e
            ∙ result_leaves f near (word (unit t m) 0) t p.six there k (rw same.1 l)
            ∙ ap (leaves (event.translation f) k) (p.rw k l);
        gsr = ap (λ (h : Shared). h.gsr) (result_shared _ (word (unit t m) 0) t ∙ same.1);
      }
