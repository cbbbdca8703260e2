-- A count that is not refused, and a unit below it. Assumes nothing.
use Prim.Native.Nat.{ℕ, ◌≤◌, ◌<◌, min}
use mathlib.Core.Path.{◌≡◌}
use mathlib.Core.Bool.{Bool, true, false, ◌||◌}
use native.Mathlib.Omega.{arith}
use lib.Dec.{eqb, ltb}
use borrow.Author.Tests.{ltb-true, ltb-false, not-false}
use Rattle.chip.specs.Answer.{miscounted, absent}

right : (a b : Bool) → a || b ≡ false → b ≡ false
right false b e = e
right true b e = absurd (let z : ◌≡◌ {A = ℕ} 0 1 = cc in omega arith)

pub well_counted : (n : ℕ) → miscounted n ≡ false → n ≤ 6
well_counted n e = ltb-false 6 n (right (eqb n 0) (ltb 6 n) e)

pub counted_present : (m n : ℕ) → miscounted n ≡ false → absent m n ≡ false → m < min n 6
counted_present m n e a =
    let few = well_counted n e in
    let there = ltb-true m n (not-false (ltb m n) a) in
    omega arith
