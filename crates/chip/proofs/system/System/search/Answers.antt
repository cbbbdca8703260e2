-- `System::search` meets its contract: no place that it has passed matches, and the near one is the first of them. Assumes nothing.
use Rattle.std.proofs.Common.{ℕ, ◌*◌, ◌<◌, ◌≡◌, refl, sym, ap, ◌∙◌, Some, None, List, length, get_or, take, length-take-le, get_or-take, ⊎_elim, rules, arith}
use Rattle.descriptors.specs.Descriptor.{match_answer, zeros}
use Rattle.std.specs.Option.{option_or}
use Rattle.descriptors.specs.declared.descriptor.Descriptor.{Descriptor}
use Rattle.descriptors.specs.declared.descriptor.Match.TheVariants.{Yes, Disabled, RangeDiffers, SpaceDiffers, BothDiffer}
use Rattle.registers.proofs.Numbers.{counted}
use Rattle.chip.specs.System.{present, descriptor}
use Rattle.chip.specs.Search.{first, matching, searched}
use Rattle.chip.specs.declared.system.System.{System}
use Rattle.chip.specs.declared.search.Place.{Place}
use Rattle.chip.proofs.First.{first_at, first_nowhere}
use Rattle.chip.proofs.Passed.{matched, pass}
use Rattle.chip.proofs.system.System.search.Goals as goal
use Rattle.chip.proofs.system.System.search.Goals.{in-SpaceDiffers, in-Disabled}

-- the elements of the slice are the first descriptors
all : (s : System) (ds : List Descriptor) → ds ≡ take (32 * present s) s.descriptors → length s.descriptors ≡ 192 → length ds ≡ 32 * present s
all s ds e size = rw e (length-take-le (32 * present s) s.descriptors (omega (arith, size)))

there : (s : System) (i : ℕ) (ds : List Descriptor) → ds ≡ take (32 * present s) s.descriptors → length s.descriptors ≡ 192 → i < length ds
    → (i < 32 * present s) × (get_or ds i zeros ≡ descriptor s i)
there s i ds e size h = let l : i < 32 * present s = omega (arith, all s ds e size) in (l, rw e (get_or-take (32 * present s) s.descriptors i zeros l))

pub loop-i-init : goal.loop-i-init
unfolding first
loop-i-init c = record { none = λ k a b. absurd (omega arith); lowest = refl }

pub returns-in-Yes : goal.returns-in-Yes
unfolding searched
returns-in-Yes c =
    let at = c.loop-i in
    let a = c.args in
    let size : length a.self.now.descriptors ≡ 192 = search (rules, counted) in
    let there = there a.self.now at.i _ c.in_system-d-items.ensures size c.loop-i-test.true in
    let found = matched a.logical.page a.logical.number a.self.now at.i {a = Yes} (ap (λ (d : Descriptor). match_answer d a.logical.page a.logical.number) (sym there.1) ∙ sym c.match_answer.ensures ∙ c.in-Yes.is) in
    let e : matching a.logical.page a.logical.number a.self.now ≡ Some at.i = first_at _ 0 _ at.i (omega arith) (omega (arith, there.0)) at.invariant.none found in
    rw e refl

pub loop-i-preserved : goal.loop-i-preserved
loop-i-preserved c =
    let at = c.loop-i in
    let a = c.args in
    let size : length a.self.now.descriptors ≡ 192 = search (rules, counted) in
    let there = there a.self.now at.i _ c.in_system-d-items.ensures size c.loop-i-test.true in
    let step = pass a.logical.page a.logical.number a.self.now at.near c.match-match_answer.near at.i in
    let here = ap (λ (d : Descriptor). match_answer d a.logical.page a.logical.number) (sym there.1) ∙ sym c.match_answer.ensures in
    elim c.match-match_answer.branch [
      | in-SpaceDiffers w ↦ step SpaceDiffers (here ∙ w.in-SpaceDiffers.is) refl (w.near-is ∙ w.or-near.ensures ∙ ap (λ (p : Place). option_or at.near (Some p)) w.place.ensures) at.invariant
      | in-Disabled w ↦ ⊎_elim (λ e. step Disabled (here ∙ e) refl w.near-is at.invariant)
          (⊎_elim (λ e. step RangeDiffers (here ∙ e) refl w.near-is at.invariant) (λ e. step BothDiffer (here ∙ e) refl w.near-is at.invariant))
          w.in-Disabled.is
    ]

pub returns : goal.returns
unfolding searched
returns c =
    let at = c.loop-i in
    let a = c.args in
    let size : length a.self.now.descriptors ≡ 192 = search (rules, counted) in
    let whole : at.i ≡ 32 * present a.self.now = omega (arith, all a.self.now _ c.in_system-d-items.ensures size, c.loop-i-test.false, at.auto.i-end) in
    let e : matching a.logical.page a.logical.number a.self.now ≡ None = first_nowhere _ 0 _ (λ k l h. at.invariant.none k l (omega arith)) in
    rw (e, at.invariant.lowest, whole) refl
