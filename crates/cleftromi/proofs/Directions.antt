-- Which cycle each direction asks for: 0, 2, and every other number. Assumes nothing.
use Prim.Native.Nat.{ℕ}
use mathlib.Core.Path.{◌≡◌, refl}
use mathlib.Core.Logic.{◌≢◌}
use borrow.Author.Tests.{ne_eqb}
use Rattle.cleftromi.specs.Interface.{cycle_by}
use Rattle.chip.specs.declared.access.Cycle.TheVariants.{Read, Write, ReadModifyWrite}

pub reads_by : (direction : ℕ) → direction ≡ 0 → cycle_by direction ≡ Read
reads_by direction e = rw e refl

pub modifies_by : (direction : ℕ) → direction ≡ 2 → cycle_by direction ≡ ReadModifyWrite
modifies_by direction e = rw e refl

pub writes_by : (direction : ℕ) → direction ≢ 0 → direction ≢ 2 → cycle_by direction ≡ Write
writes_by direction n m = rw (ne_eqb direction 0 n, ne_eqb direction 2 m) refl
