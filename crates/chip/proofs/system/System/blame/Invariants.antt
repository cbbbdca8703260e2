-- What the loop of `blame` keeps.
use Prim.Native.Nat.{◌-◌}
use Rattle.descriptors.specs.Descriptor.{collides}
use Rattle.chip.specs.Search.{in_unit}
use Rattle.chip.specs.Load.{blame}
use Rattle.chip.proofs.Units.{Done}
use Rattle.chip.proofs.system.System.blame.Given as goal

abbrev pub invariant-loop-k : goal.invariant-loop-k
invariant-loop-k l = Done l.initial.self l.self l.n l.k (λ m. blame (in_unit (collides l.d) m l.initial.self))

abbrev pub decreases-loop-k : goal.decreases-loop-k
decreases-loop-k l = l.n - l.k
