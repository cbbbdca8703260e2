-- What a bus access leaves in the descriptors: the status of the segment that it matched, handbook 3.1.6, and nothing else.
use Rattle.std.specs.Prelude.{ℕ, ◌≡◌, ◌≢◌, Bool, true, false}
use Rattle.descriptors.specs.Status.{Raised}
use Rattle.descriptors.specs.Descriptor.{with_ssr}
use Rattle.chip.specs.System.{descriptor}
use Rattle.chip.specs.declared.system.System.{System}
use Rattle.chip.specs.declared.access.Cycle.{Cycle}
use Rattle.chip.specs.declared.access.Cycle.TheVariants.{Read, Write, ReadModifyWrite}

-- The table: whether U is set, and whether M, by the cycle and by whether it ends in a write violation. A read does not; where a
-- read-modify-write does, its read half was successful (4.5.3.2, item 3)
abbrev pub sets : Cycle → (violating : Bool) → Bool × Bool
sets Read violating = (true, false)
sets Write false = (true, true)
sets Write true = (false, false)
sets ReadModifyWrite false = (true, true)
sets ReadModifyWrite true = (true, false)

-- from s to t the segment at place i has its status raised so, its other fields stay, and so does every other descriptor
pub record Accessed (sets : Bool × Bool) (i : ℕ) (s t : System) : Type 0 where
  pub status : Raised sets (descriptor s i).ssr (descriptor t i).ssr
  pub fields : descriptor t i ≡ with_ssr (descriptor s i) (descriptor t i).ssr
  pub elsewhere : (k : ℕ) → k ≢ i → descriptor t k ≡ descriptor s k
