-- What a bus access leaves in the descriptors is what the table says (specs/Segment.antt).
--     access_segments     by what it answers
-- Assumes nothing.
use Prim.Native.Nat.{ℕ, ◌+◌, ◌*◌, ◌/◌, ◌%◌, ◌<◌}
use mathlib.Core.Path.{◌≡◌, refl}
use mathlib.Core.Bool.{Bool, true, false, ◌&&◌, false≢true, and-eq-true_iff}
use native.Mathlib.Omega.{arith}
use lib.ListN.{length}
use Rattle.descriptors.specs.Status.{used, Raised}
use Rattle.descriptors.specs.Descriptor.{protected, with_ssr}
use Rattle.descriptors.proofs.Raised.{used_raised, modified_raised, same_raised}
use Rattle.chip.specs.System.{descriptor, with_units, with_shared, with_descriptor}
use Rattle.chip.specs.Answer.{mapped, violating, undefined as undefined_kind, values, refused, granted}
use Rattle.chip.specs.Access.{writes, touched, touch, read_half, fault, violation, undefined, match_at}
use Rattle.chip.specs.Call.{performed}
use Rattle.chip.specs.Segment.{sets, Accessed}
use Rattle.chip.specs.declared.system.System.{System}
use Rattle.chip.specs.declared.access.Cycle.{Cycle}
use Rattle.chip.specs.declared.access.Cycle.TheVariants.{Read, Write, ReadModifyWrite}
use Rattle.chip.specs.declared.answer.Outcome.{Outcome}
use Rattle.chip.specs.declared.call.Call.TheVariants as call
use Rattle.chip.proofs.Checked.{either, outcome_law, translate_law}
use Rattle.chip.proofs.Parts.{descriptor_there, descriptor_elsewhere}

touched_raised : (cycle : Cycle) (ssr : ℕ) → Raised (sets cycle false) ssr (touched cycle ssr)
touched_raised Read ssr = used_raised ssr
touched_raised Write ssr = modified_raised true ssr (used ssr) (used_raised ssr)
touched_raised ReadModifyWrite ssr = modified_raised true ssr (used ssr) (used_raised ssr)

module _ (i : ℕ) (s : System) (h : i < length s.descriptors) where
  accessed : (set : Bool × Bool) (ssr : ℕ) → Raised set (descriptor s i).ssr ssr
      → Accessed set i s (with_descriptor s i (with_ssr (descriptor s i) ssr))
  accessed set ssr r =
      let there = descriptor_there s i (with_ssr (descriptor s i) ssr) h in
      record { status = rw there r; fields = rw there refl; elsewhere = λ k n. descriptor_elsewhere s i k _ n }

  touch_accessed : (cycle : Cycle) → Accessed (sets cycle false) i s (touch cycle i s)
  touch_accessed cycle = accessed (sets cycle false) _ (touched_raised cycle (descriptor s i).ssr)

  -- before a violation
  half_accessed : (cycle : Cycle) → writes cycle ≡ true → Accessed (sets cycle true) i s (read_half cycle i s)
  unfolding read_half
  half_accessed Read w = absurd (false≢true w)
  half_accessed Write w = record { status = same_raised (descriptor s i).ssr; fields = refl; elsewhere = λ k n. refl }
  half_accessed ReadModifyWrite w = touch_accessed Read

-- by what an access answers
pub record Segments (cycle : Cycle) (s : System) (o : Outcome) : Type 0 where
  pub mapped : (values o.answer).kind ≡ mapped
      → Accessed (sets cycle false) (32 * (values o.answer).unit + (values o.answer).descriptor) s o.system
  pub violating : (values o.answer).kind ≡ violating
      → Accessed (sets cycle true) (32 * (values o.answer).unit + (values o.answer).descriptor) s o.system
  pub missed : (values o.answer).kind ≡ undefined_kind → o.system.descriptors ≡ s.descriptors

match_segments : (i : ℕ) (cycle : Cycle) (page number offset : ℕ) (s : System) → i < length s.descriptors
    → Segments cycle s (match_at i cycle page number offset s)
unfolding match_at violation fault granted with_shared with_units
match_segments i cycle page number offset s h =
    let place : 32 * (i / 32) + i % 32 ≡ i = omega arith in
    either (Segments cycle s) (writes cycle && protected (descriptor s i))
    (λ w.
    let half = half_accessed i s h cycle ((and-eq-true_iff (writes cycle) (protected (descriptor s i))).0 w).0 in
    record {
      mapped = λ k. absurd (omega arith);
      violating = λ k. rw place (record { status = half.status; fields = half.fields; elsewhere = half.elsewhere });
      missed = λ k. absurd (omega arith);
    })
    (λ w. record {
      mapped = λ k. rw place (touch_accessed i s h cycle);
      violating = λ k. absurd (omega arith);
      missed = λ k. absurd (omega arith);
    })

pub access_segments : (code : ℕ) (cycle : Cycle) (address : ℕ) (s : System) → length s.descriptors ≡ 192
    → Segments cycle s (performed (call.Access code cycle address) s)
unfolding undefined fault refused granted with_shared with_units
access_segments code cycle address s ds =
    outcome_law (call.Access code cycle address) s (Segments cycle s)
    (λ r. record { mapped = λ e. absurd (omega arith); violating = λ e. absurd (omega arith); missed = λ e. absurd (omega arith) })
    (λ n.
    translate_law code cycle address s (Segments cycle s) (λ i f. match_segments i cycle _ _ _ s (omega (arith, f.high)))
    (λ u. record { mapped = λ k. absurd (omega arith); violating = λ k. absurd (omega arith); missed = λ k. refl }))
