-- An access that is answered is answered alike in a system that matches what was matched.
--     Still s t          what is matched in s is matched in t, by the same descriptor
--     access_answer      so an access of s that is not undefined has the same answer in t
-- Assumes nothing.
use Rattle.std.specs.Prelude.{Option, Some, None, Result, ok_or, option_map}
use Prim.Native.Nat.{ℕ, ◌/◌, ◌%◌, ◌<◌, ◌^◌}
use mathlib.Core.Path.{◌≡◌, refl, sym, ap, subst}
use mathlib.Core.Logic.{◌≢◌}
use mathlib.Core.Bool.{Bool, true, false, ◌&&◌, cond}
use mathlib.Core.List.{List, [], ◌∷◌}
use native.Mathlib.Omega.{arith}
use borrow.Author.Tests.{ltb-false}
use Rattle.descriptors.specs.Descriptor.{protected}
use Rattle.registers.specs.Shared.{entry}
use Rattle.registers.specs.declared.shared.Shared.{Shared}
use Rattle.chip.specs.System.{descriptor, with_shared}
use Rattle.chip.specs.Search.{matching, near_place, searched, place}
use Rattle.chip.specs.Answer.{values, refused, granted, checked, undefined}
use Rattle.chip.specs.Access.{writes, match_at, translate_at, translate}
use Rattle.chip.specs.Call.{checks, carried_out, performed}
use Rattle.chip.specs.declared.system.System.{System}
use Rattle.chip.specs.declared.access.Cycle.{Cycle}
use Rattle.chip.specs.declared.answer.Refusal.{Refusal}
use Rattle.chip.specs.declared.answer.Answer.{Answer}
use Rattle.chip.specs.declared.answer.Outcome.{Outcome}
use Rattle.chip.specs.declared.call.Call.TheVariants as call
use Rattle.chip.proofs.Checked.{NoneOf}
use Rattle.chip.specs.declared.search.Place.{Place}

-- what a match answers is read off its descriptor
either_answer : (b : Bool) (x y : Answer) (s t u v : System)
    → (cond b (granted x s) (granted y t)).answer ≡ (cond b (granted x u) (granted y v)).answer
unfolding granted
either_answer true x y s t u v = refl
either_answer false x y s t u v = refl

answered_alike : (i : ℕ) (cycle : Cycle) (page number offset : ℕ) (s t : System) → descriptor t i ≡ descriptor s i
    → (match_at i cycle page number offset t).answer ≡ (match_at i cycle page number offset s).answer
unfolding match_at
answered_alike i cycle page number offset s t e = rw e (either_answer (writes cycle && protected (descriptor s i)) _ _ _ _ _ _)

-- what was matched is matched
abbrev pub Still : System → System → Type 0
Still s t =
    (page number i : ℕ) → page < 2 ^ 16 → number < 2 ^ 8 → matching page number s ≡ Some i
    → (matching page number t ≡ Some i) × (descriptor t i ≡ descriptor s i)

abbrev pub Defined : Answer → Type 0
Defined a = (values a).kind ≢ undefined

translate_answer : (code : ℕ) (cycle : Cycle) (address : ℕ) (s t : System) → t.shared ≡ s.shared → Still s t
    → address < 2 ^ 24 → entry s.shared code < 2 ^ 8 → Defined (translate code cycle address s).answer
    → (translate code cycle address t).answer ≡ (translate code cycle address s).answer
unfolding translate translate_at searched granted
translate_answer code cycle address s t same still a n =
    let e : entry t.shared code ≡ entry s.shared code = ap (λ (h : Shared). entry h code) same in
    rw e (go (matching page number s) refl)
  where
    page : ℕ
    page = address / 256

    number : ℕ
    number = entry s.shared code

    found_at : Option ℕ → Result ℕ (Option Place)
    found_at f = ok_or f (option_map place (near_place page number s))

    go : (f : Option ℕ) → matching page number s ≡ f → Defined (translate_at (found_at f) cycle page number (address % 256) s).answer
        → (translate_at (searched page number t) cycle page number (address % 256) t).answer
        ≡ (translate_at (found_at f) cycle page number (address % 256) s).answer
    go (Some i) e d =
        let k = still page number i (omega arith) n e in
        rw k.0 (answered_alike i cycle page number (address % 256) s t k.1)
    go None e d = absurd (d refl)

checked_answer : (cs : List (Refusal × Bool)) (s t : System) (o p : Outcome)
    → (NoneOf cs → Defined o.answer → p.answer ≡ o.answer) → Defined (checked cs s o).answer
    → (checked cs t p).answer ≡ (checked cs s o).answer
unfolding refused
checked_answer [] s t o p k = k tt
checked_answer (c ∷ cs) s t o p k = go c.1 (λ e. checked_answer cs s t o p (λ n. k (e, n)))
  where
    go : (b : Bool) → (b ≡ false → Defined (checked cs s o).answer → (checked cs t p).answer ≡ (checked cs s o).answer)
        → Defined (cond b (refused c.0 s) (checked cs s o)).answer
        → (cond b (refused c.0 t) (checked cs t p)).answer ≡ (cond b (refused c.0 s) (checked cs s o)).answer
    go true later d = refl
    go false later d = later refl d

pub access_answer : (code : ℕ) (cycle : Cycle) (address : ℕ) (s t : System) → t.shared ≡ s.shared → Still s t
    → ((i : ℕ) → entry s.shared i < 2 ^ 8) → let c = call.Access code cycle address in
    Defined (performed c s).answer → (performed c t).answer ≡ (performed c s).answer
unfolding performed with_shared
access_answer code cycle address s t same still n =
    let c = call.Access code cycle address in
    let alike : checks c t ≡ checks c s = ap (λ (h : Shared). checks c (with_shared s h)) same in
    subst
    (λ (cs : List (Refusal × Bool)). Defined (checked (checks c s) s (carried_out c s)).answer
    → (checked cs t (carried_out c t)).answer ≡ (checked (checks c s) s (carried_out c s)).answer)
    (sym alike)
    (checked_answer (checks c s) s t (carried_out c s) (carried_out c t)
    (λ k. translate_answer code cycle address s t same still (omega (arith, ltb-false 0xFFFFFF address k.1.1.0)) (n code)))
