-- At most one match: in a system in which no two enabled descriptors clash, a page and a number are matched at one place at
-- most; and the match that is found is the lowest. Assumes nothing.
use Rattle.std.specs.Prelude.{Option, Some, None}
use Prim.Native.Nat.{ℕ, ◌+◌, ◌*◌, ◌<◌, ◌^◌}
use mathlib.Core.Path.{◌≡◌, refl, sym, ap, ◌∙◌}
use mathlib.Core.Bool.{true, false, false≢true}
use native.Mathlib.Omega.{arith}
use Rattle.descriptors.specs.Descriptor.{enabled, matches, clashes}
use Rattle.descriptors.proofs.Clash.{matches_clash, matches_enabled}
use Rattle.chip.specs.System.{present, descriptor}
use Rattle.chip.specs.Search.{matching}
use Rattle.chip.specs.declared.system.System.{System}
use Rattle.chip.proofs.First.{First, first_found, first_missed}

-- no two enabled descriptors at different places clash
unfoldable pub Apart : System → Type 0
Apart s =
    (i j : ℕ) → i < 32 * present s → j < 32 * present s
    → enabled (descriptor s i) ≡ true → enabled (descriptor s j) ≡ true
    → clashes (descriptor s i) (descriptor s j) ≡ true → i ≡ j

pub at_most_one : (s : System) → Apart s → (page number i j : ℕ) → page < 2 ^ 16 → number < 2 ^ 8
    → i < 32 * present s → j < 32 * present s
    → matches (descriptor s i) page number ≡ true → matches (descriptor s j) page number ≡ true → i ≡ j
unfolding Apart
at_most_one s apart page number i j p n hi hj mi mj =
    apart i j hi hj (matches_enabled (descriptor s i) page number mi) (matches_enabled (descriptor s j) page number mj)
    (matches_clash (descriptor s i) (descriptor s j) page number p n mi mj)

-- what is found is the lowest place that matches, and where nothing is found nothing matches
pub matching_found : (s : System) (page number i : ℕ) → matching page number s ≡ Some i
    → First (λ k. matches (descriptor s k) page number) 0 (0 + 32 * present s) i
matching_found s page number i e = first_found (λ k. matches (descriptor s k) page number) 0 (32 * present s) i e

pub matching_missed : (s : System) (page number : ℕ) → matching page number s ≡ None
    → (i : ℕ) → i < 32 * present s → matches (descriptor s i) page number ≡ false
matching_missed s page number e i h =
    first_missed (λ k. matches (descriptor s k) page number) 0 (32 * present s) e i (omega arith) (omega arith)

-- so where nothing clashes, what matches is what is found
pub matching_is : (s : System) → Apart s → (page number i : ℕ) → page < 2 ^ 16 → number < 2 ^ 8 → i < 32 * present s
    → matches (descriptor s i) page number ≡ true → matching page number s ≡ Some i
matching_is s apart page number i p n h m = go (matching page number s) refl
  where
    go : (f : Option ℕ) → matching page number s ≡ f → f ≡ Some i
    go (Some j) e =
        let k = matching_found s page number j e in
        ap Some (at_most_one s apart page number j i p n (omega (arith, k.high)) h k.here m)
    go None e = absurd (false≢true (sym (matching_missed s page number e i h) ∙ m))
