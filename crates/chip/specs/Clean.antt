-- A system in clean form: every register within its bits, and nothing at or above the count.
use Rattle.std.specs.Prelude.{ℕ, ◌*◌, ◌<◌, ◌≤◌, ◌≡◌, length}
use Rattle.descriptors.specs.Descriptor.{zeros}
use Rattle.descriptors.specs.Clean.{CleanDescriptor}
use Rattle.registers.specs.Clean.{CleanUnit, CleanShared}
use Rattle.chip.specs.System.{present, unit, descriptor}
use Rattle.chip.specs.Reset.{blank}
use Rattle.chip.specs.declared.system.System.{System}

pub record Clean (s : System) : Type 0 where
  pub shared : CleanShared s.shared
  pub places : (length s.units ≡ 6) × (length s.descriptors ≡ 192)
  pub units : (m : ℕ) → m < present s → CleanUnit (unit s m)
  pub descriptors : (i : ℕ) → i < 32 * present s → CleanDescriptor (descriptor s i)
  pub no_unit : (m : ℕ) → present s ≤ m → m < 6 → unit s m ≡ blank
  pub no_descriptor : (i : ℕ) → 32 * present s ≤ i → i < 192 → descriptor s i ≡ zeros
