-- `status::clean` meets its contract: the mask keeps IP where E is set. Assumes nothing.
use mathlib.Core.Path.{◌≡◌, refl, sym, ◌∙◌}
use mathlib.Core.Bool.{Bool, true, false, not, ◌&&◌, ◌||◌, cond}
use native.Mathlib.Omega.{arith}
use Prim.Native.Nat.{ℕ, zero, suc, ◌*◌, ◌≤◌, ◌<◌, ◌^◌}
use lib.Dec.{eqb, lit<}
use lib.Bits.{bit_and, bit_or, and_le_r}
use Rattle.masks.specs.Fields.{bit, field}
use Rattle.masks.proofs.Bits.{and_field, bit_test}
use Rattle.descriptors.specs.Status.{E, IP, reserved, clean}
use Rattle.descriptors.proofs.status.clean.Goals as goal

-- the mask keeps what the clean form keeps, where E is e
keeps : (ssr mask : ℕ) (e : Bool) → bit ssr E ≡ e → mask < 2 ^ 8
    → field 8 (λ i. cond (bit mask i) (bit ssr i) false) ≡ field 8 (λ i. cond (reserved i || (eqb i IP && not e)) false (bit ssr i))
    → bit_and ssr mask ≡ clean ssr
unfolding clean
keeps ssr mask e q h k = and_field 8 ssr mask h ∙ rw q k

-- where E, as a number, is e
by_e : (ssr e : ℕ) → e ≤ 1 → bit_and ssr 1 ≡ e → bit_and ssr (bit_or 0x97 (e * 8)) ≡ clean ssr
unfolding bit field
by_e ssr zero h q = keeps ssr _ false (sym (bit_test ssr E) ∙ rw q) (lit< tt) refl
by_e ssr (suc zero) h q = keeps ssr _ true (sym (bit_test ssr E) ∙ rw q) (lit< tt) refl
by_e ssr (suc (suc e)) h q = absurd (omega arith)

pub returns : goal.returns
returns c = let ssr = c.args.ssr in by_e ssr _ (and_le_r ssr 1) refl
