-- The descriptor that is near (document 02, P4).
--     searched_located     a match that a search tells of is at one of the 192 places
--     near_small           unit and descriptor that are named are below 8 and 32
--     near_carried         and they are those of the lowest place whose space alone differs; none are named exactly where there is none
-- Assumes nothing.
use Rattle.std.specs.Prelude.{Option, Some, None, ok_or, option_map, Result, Ok}
use Prim.Native.Nat.{ℕ, ◌+◌, ◌*◌, ◌/◌, ◌%◌, ◌<◌, ◌^◌}
use mathlib.Core.Path.{◌≡◌, refl, sym, ◌∙◌}
use mathlib.Core.Bool.{false, false≢true}
use native.Mathlib.Omega.{arith}
use lib.Dec.{lit<}
use Rattle.descriptors.specs.Descriptor.{match_answer, space_alone}
use Rattle.descriptors.proofs.Match.{space_alone_law}
use Rattle.registers.specs.Unit.{flag}
use Rattle.chip.specs.System.{present, descriptor}
use Rattle.chip.specs.Answer.{named_by}
use Rattle.chip.specs.Reason.{SpaceAloneDiffers, Carried}
use Rattle.chip.specs.Search.{matching, near_place, searched, place}
use Rattle.chip.specs.declared.system.System.{System}
use Rattle.chip.proofs.First.{first_found, first_missed}
use Rattle.chip.proofs.Once.{matching_found}
use Rattle.chip.specs.declared.search.Place.{Place}

-- a match that was told is at one of the 192
abbrev pub Located : Result ℕ (Option Place) → Type 0
Located x = (i : ℕ) → x ≡ Ok i → i < 192

pub searched_located : (page number : ℕ) (s : System) → Located (searched page number s)
unfolding searched
searched_located page number s = go (matching page number s) refl
  where
    go : (f : Option ℕ) → matching page number s ≡ f → Located (ok_or f (option_map place (near_place page number s)))
    go (Some k) e i q = let j : k ≡ i = cc in omega (arith, (matching_found s page number k e).high)
    go None e i q = absurd (let z : ◌≡◌ {A = ℕ} 0 1 = cc in omega arith)

-- unit and descriptor within their fields
abbrev pub Small : Option Place → Type 0
Small near = ((named_by near).0 < 2 ^ 3) × ((named_by near).1 < 2 ^ 5)

pub near_small : (page number : ℕ) (s : System) → Small (option_map place (near_place page number s))
near_small page number s = go (near_place page number s) refl
  where
    go : (f : Option ℕ) → near_place page number s ≡ f → Small (option_map place f)
    go (Some i) e = let f = first_found _ 0 _ i e in let high = f.high in (omega arith, omega arith)
    go None e = (lit< tt, lit< tt)

pub near_carried : (page number : ℕ) (s : System) → let named = named_by (option_map place (near_place page number s)) in
    Carried page number s (flag named.2) named.0 named.1
near_carried page number s = go (near_place page number s) refl
  where
    alone : (k : ℕ) → space_alone (match_answer (descriptor s k) page number) ≡ false → SpaceAloneDiffers (descriptor s k) page number → ⊥
    alone k e d = false≢true (sym e ∙ (space_alone_law (descriptor s k) page number).1 d)

    go : (f : Option ℕ) → near_place page number s ≡ f → let named = named_by (option_map place f) in
        Carried page number s (flag named.2) named.0 named.1
    go (Some i) e =
        let f = first_found (λ k. space_alone (match_answer (descriptor s k) page number)) 0 (32 * present s) i e in
        let place : 32 * (i / 32) + i % 32 ≡ i = omega arith in
        record {
          names_lowest = λ q.
              rw place (omega (arith, f.high), (space_alone_law (descriptor s i) page number).0 f.here, λ k l. alone k (f.before k (omega arith) l));
          names_none = λ q. absurd (omega arith);
        }
    go None e = record {
      names_lowest = λ q. absurd (omega arith);
      names_none = λ q. (λ k l. alone k (first_missed _ 0 (32 * present s) e k (omega arith) (omega arith)), refl, refl);
    }
