-- E after each change of a status (handbook 3.1.6).
--     used_e, modified_e, clean_e    it stays
--     disabled_e                     it is clear
--     rewritten_e                    a write of the status never sets it
-- Assumes nothing.
use Prim.Native.Nat.{ℕ}
use mathlib.Core.Path.{◌≡◌, refl, sym, ◌∙◌}
use mathlib.Core.Bool.{Bool, true, false, cond, false≢true}
use lib.Dec.{eqb, lit<}
use Rattle.masks.specs.Fields.{bit}
use Rattle.masks.proofs.Bits.{bit_field}
use Rattle.descriptors.specs.Status.{E, M, IP, I, U, raise, lower, clean, used, modified, disabled, rewritten}

raise_e : (i ssr : ℕ) → eqb E i ≡ false → bit (raise i ssr) E ≡ bit ssr E
unfolding raise
raise_e i ssr h = bit_field 8 _ E (lit< tt) ∙ rw h

pub used_e : (ssr : ℕ) → bit (used ssr) E ≡ bit ssr E
unfolding used
used_e ssr = go (bit ssr I)
  where
    go : (b : Bool) → bit (cond b (raise IP (raise U ssr)) (raise U ssr)) E ≡ bit ssr E
    go true = raise_e IP (raise U ssr) refl ∙ raise_e U ssr refl
    go false = raise_e U ssr refl

pub modified_e : (ssr : ℕ) → bit (modified ssr) E ≡ bit ssr E
unfolding modified
modified_e ssr = raise_e M ssr refl

pub clean_e : (ssr : ℕ) → bit (clean ssr) E ≡ bit ssr E
unfolding clean
clean_e ssr = bit_field 8 _ E (lit< tt)

pub disabled_e : (ssr : ℕ) → bit (disabled ssr) E ≡ false
unfolding disabled lower
disabled_e ssr = clean_e _ ∙ bit_field 8 _ E (lit< tt)

pub rewritten_e : (old value : ℕ) → bit (rewritten old value) E ≡ true → bit old E ≡ true
unfolding rewritten
rewritten_e old value = go (bit old E)
  where
    go : (b : Bool) → bit (cond b (clean value) (disabled value)) E ≡ true → b ≡ true
    go true h = refl
    go false h = absurd (false≢true (sym (disabled_e value) ∙ h))
