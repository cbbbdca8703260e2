-- The law of the clash: the computed test decides whether some page and some number exist that both descriptors match, E taken as set.
-- Assumes nothing.
use mathlib.Core.Path.{◌≡◌}
use mathlib.Core.Logic.{◌↔◌}
use mathlib.Core.Bool.{true, ◌&&◌, and-eq-true_iff}
use Prim.Native.Nat.{ℕ, ◌<◌, ◌^◌}
use lib.Dec.{lit<}
use Rattle.masks.specs.Fields.{clash}
use Rattle.masks.proofs.Bits.{bit_field}
use Rattle.masks.proofs.Laws.{clash_exists}
use Rattle.descriptors.specs.Status.{raise}
use Rattle.descriptors.specs.Descriptor.{enabled, range_match, space_match, matches, enable, Clash, clashes}
use Rattle.descriptors.specs.declared.descriptor.Descriptor.{Descriptor}

-- with E set, a match is a range match and a space match
enable_matches : (d : Descriptor) (page number : ℕ) → (matches (enable d) page number ≡ true) ↔ ((range_match d page ≡ true) × (space_match d number ≡ true))
unfolding matches enable raise
enable_matches d page number = rw (bit_field 8 _ 0 (lit< tt)) (and-eq-true_iff _ _)

pub clash_law : (d e : Descriptor) → (clashes d e ≡ true) ↔ Clash d e
unfolding clashes Clash
clash_law d e =
    let ranges = clash_exists 16 d.lam d.lba e.lam e.lba in
    let spaces = clash_exists 8 d.asm d.asn e.asm e.asn in
    let both = and-eq-true_iff (clash 16 d.lam d.lba e.lam e.lba) (clash 8 d.asm d.asn e.asm e.asn) in (
      λ c.
          let r = ranges.0 (both.0 c).0 in
          let s = spaces.0 (both.0 c).1 in
          (r.0, s.0, r.1, s.1, (enable_matches d r.0 s.0).1 (r.2, s.2), (enable_matches e r.0 s.0).1 (r.3, s.3)),
      λ k.
          let r = (enable_matches d k.0 k.1).0 k.4 in
          let s = (enable_matches e k.0 k.1).0 k.5 in
          both.1 (ranges.1 (k.0, k.2, r.0, s.0), spaces.1 (k.1, k.3, r.1, s.1)),
    )

-- what matches is enabled, and stays a match with E set
matches_parts : (d : Descriptor) (page number : ℕ) → matches d page number ≡ true
    → (enabled d ≡ true) × (range_match d page ≡ true) × (space_match d number ≡ true)
unfolding matches
matches_parts d page number m =
    let outer = (and-eq-true_iff (enabled d && range_match d page) (space_match d number)).0 m in
    let inner = (and-eq-true_iff (enabled d) (range_match d page)).0 outer.0 in
    (inner.0, inner.1, outer.1)

pub matches_enabled : (d : Descriptor) (page number : ℕ) → matches d page number ≡ true → enabled d ≡ true
matches_enabled d page number m = (matches_parts d page number m).0

matches_of : (d : Descriptor) (page number : ℕ) → enabled d ≡ true → matches (enable d) page number ≡ true → matches d page number ≡ true
unfolding matches
matches_of d page number e m =
    let both = (enable_matches d page number).0 m in
    (and-eq-true_iff (enabled d && range_match d page) (space_match d number)).1
    ((and-eq-true_iff (enabled d) (range_match d page)).1 (e, both.0), both.1)

-- two descriptors that match one page and one number clash, and two that are enabled and clash match such
pub matches_clash : (d e : Descriptor) (page number : ℕ) → page < 2 ^ 16 → number < 2 ^ 8
    → matches d page number ≡ true → matches e page number ≡ true → clashes d e ≡ true
unfolding Clash
matches_clash d e page number p n md me =
    let a = matches_parts d page number md in
    let b = matches_parts e page number me in
    (clash_law d e).1 (page, number, p, n, (enable_matches d page number).1 (a.1, a.2), (enable_matches e page number).1 (b.1, b.2))

pub clash_matches : (d e : Descriptor) → enabled d ≡ true → enabled e ≡ true → clashes d e ≡ true
    → (page : ℕ) × (number : ℕ) × (page < 2 ^ 16) × (number < 2 ^ 8) × (matches d page number ≡ true) × (matches e page number ≡ true)
unfolding Clash
clash_matches d e ed ee c =
    let k = (clash_law d e).0 c in
    (k.0, k.1, k.2, k.3, matches_of d k.0 k.1 ed k.4, matches_of e k.0 k.1 ee k.5)

-- a clash is one in either order
pub clash_either_way : (d e : Descriptor) → clashes d e ≡ true → clashes e d ≡ true
unfolding Clash
clash_either_way d e c = let k = (clash_law d e).0 c in (clash_law e d).1 (k.0, k.1, k.2, k.3, k.5, k.4)
