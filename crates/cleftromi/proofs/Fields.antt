-- The fields of an answer.
--     fields           no field touches another: each is read back from its own bits, as the C header reads it
--     refusal_back     the refusal, whatever the other values are
-- That the values of every call fit their fields is `performed_fit` in `chip`. Assumes nothing.
use Prim.Native.Nat.{◌^◌, ◌<◌}
use mathlib.Core.Path.{◌≡◌}
use mathlib.Core.Bool.{Bool}
use native.Mathlib.Omega.{arith}
use Rattle.chip.specs.declared.answer.Values.{Values}
use Rattle.registers.proofs.Numbers.{small}
use Rattle.chip.proofs.Fit.{Fit}
use Rattle.cleftromi.specs.Fields.{number_of, refusal, Fields}

pub fields : (v : Values) (asserted : Bool) → Fit v → Fields v asserted (number_of v asserted)
unfolding number_of
fields v asserted f =
    let i = small asserted in
    let w = small v.win in
    let x = small v.near in
    let n = f.number in
    let k = f.kind in
    let u = f.unit in
    let d = f.descriptor in
    let b = f.byte in
    let a = f.address in
    record {
      refusal = omega arith;
      kind = omega arith;
      irq = omega arith;
      win = omega arith;
      near = omega arith;
      unit = omega arith;
      descriptor = omega arith;
      byte = omega arith;
      address = omega arith;
    }

pub refusal_back : (v : Values) (asserted : Bool) → v.number < 2 ^ 8 → refusal (number_of v asserted) ≡ v.number
unfolding number_of
refusal_back v asserted n = omega arith
