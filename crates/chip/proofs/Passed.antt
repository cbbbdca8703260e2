-- What a search for a match knows of the places that it has passed: none of them matches, and the near one is the first that is
-- near. Assumes nothing.
use Rattle.std.proofs.Common.{ℕ, ◌+◌, ◌≤◌, ◌<◌, ◌≡◌, refl, sym, ap, ◌∙◌, Bool, true, false, cond, Option, Some, None, option_map}
use Rattle.std.specs.Option.{option_or}
use Rattle.descriptors.specs.Descriptor.{matches, match_answer, is_yes, space_alone}
use Rattle.descriptors.specs.declared.descriptor.Match.{Match}
use Rattle.descriptors.proofs.Match.{yes_matches}
use Rattle.chip.specs.System.{descriptor}
use Rattle.chip.specs.Search.{first, place}
use Rattle.chip.specs.declared.system.System.{System}
use Rattle.chip.specs.declared.search.Place.{Place}
use Rattle.chip.proofs.First.{first_more, one_more}

module _ (page number : ℕ) (s : System) where
  abbrev pub answer_at : ℕ → Match
  answer_at i = match_answer (descriptor s i) page number

  pub matched : (i : ℕ) {a : Match} → answer_at i ≡ a → matches (descriptor s i) page number ≡ is_yes a
  matched i e = sym (yes_matches (descriptor s i) page number) ∙ ap is_yes e

  -- what is known of the places before i
  pub record Passed (near : Option Place) (i : ℕ) : Type 0 where
    pub none : (k : ℕ) → 0 ≤ k → k < i → matches (descriptor s k) page number ≡ false
    pub lowest : near ≡ option_map place (first (λ k. space_alone (answer_at k)) 0 i)

  pub pass : (near next : Option Place) (i : ℕ) (a : Match) → answer_at i ≡ a → is_yes a ≡ false
      → next ≡ cond (space_alone a) (option_or near (Some (place i))) near → Passed near i → Passed next (i + 1)
  pass near next i a e h q p = record {
    none = one_more 0 i p.none (matched i e ∙ h);
    lowest = q ∙ rw (p.lowest, ← e) (taken (space_alone (answer_at i)) (first alone 0 i) ∙ ap (option_map place) (sym (first_more alone i)));
  }
    where
      alone : ℕ → Bool
      alone k = space_alone (answer_at k)

      taken : (b : Bool) (o : Option ℕ) → cond b (option_or (option_map place o) (Some (place i))) (option_map place o)
          ≡ option_map place (cond b (option_or o (Some i)) o)
      taken true (Some k) = refl
      taken true None = refl
      taken false o = refl
