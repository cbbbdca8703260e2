-- `Unit::marks` meets its contract: each turn adds a bit to the field. Assumes nothing.
use Prim.Native.Nat.{ℕ, ◌+◌, ◌*◌, ◌%◌, ◌^◌, ◌<◌}
use mathlib.Core.Path.{◌≡◌, refl, ◌∙◌}
use mathlib.Core.Bool.{Bool, true, false}
use native.Mathlib.Nat.{mod-eq_of_lt}
use native.Mathlib.Numerals.{add-one}
use native.Mathlib.Omega.{arith}
use lib.Pow.{pow-lt}
use lib.Bits.{bit_or}
use Rattle.std.proofs.Common.{rules}
use Rattle.std.specs.Int.Bits.{or_shifted_r}
use Rattle.masks.specs.Fields.{field}
use Rattle.masks.proofs.Bits.{field_fits}
use Rattle.registers.specs.Unit.{byte, flag, marks}
use Rattle.registers.proofs.Numbers.{flag_byte}
use Rattle.registers.proofs.unit.Unit.marks.Goals as goal

within : (i : ℕ) (b : Bool) → i < 9 → flag b * 2 ^ i < 65536
within i true h = omega (arith, pow-lt h)
within i false h = omega arith

step : (i : ℕ) (p : ℕ → Bool) (f : ℕ) → i < 9 → f ≡ flag (p i) → bit_or (field i p) (f * 2 ^ i % 65536) ≡ field (i + 1) p
unfolding field
step i p f h e = rw (e, mod-eq_of_lt (within i (p i) h), or_shifted_r (flag (p i)) i (field i p) (field_fits i p), add-one) refl

pub loop-i-init : goal.loop-i-init
unfolding field
loop-i-init c = refl

pub loop-i-preserved : goal.loop-i-preserved
loop-i-preserved c =
    let mark : c.from.result ≡ flag (byte c.args.self c.loop-i.i).global = search (rules, flag_byte) in
    rw c.loop-i.invariant (step c.loop-i.i (λ i. (byte c.args.self i).global) c.from.result c.loop-i-test.true mark)

pub returns : goal.returns
unfolding marks
returns c =
    let all : c.loop-i.i ≡ 9 = omega (arith, c.loop-i.auto.i-end, c.loop-i-test.false) in
    c.loop-i.invariant ∙ rw all
