-- What each change of a system leaves alone.
--     unit_there, unit_elsewhere                  after `with_unit`
--     descriptor_there, descriptor_elsewhere      after `with_descriptor`
--     each_unit, past_units                       after `in_each`: a unit that is there, and one that is not
--     same_descriptors, same_shared, same_units   what a change of another part leaves whole
-- Assumes nothing.
use Prim.Native.Nat.{ℕ, ◌<◌, ◌≤◌}
use mathlib.Core.Path.{◌≡◌, refl}
use mathlib.Core.Logic.{◌≢◌}
use mathlib.Core.List.{List}
use lib.ListN.{length}
use lib.Seq.{get_or-set_same, get_or-set_other}
use Rattle.descriptors.specs.Descriptor.{zeros}
use Rattle.descriptors.specs.declared.descriptor.Descriptor.{Descriptor}
use Rattle.registers.specs.Unit.{no_unit}
use Rattle.registers.specs.declared.unit.Unit.{Unit}
use Rattle.registers.specs.declared.shared.Shared.{Shared}
use Rattle.chip.specs.System.{present, unit, descriptor, with_units, with_shared, with_descriptor, with_unit, in_each}
use Rattle.chip.specs.declared.system.System.{System}
use Rattle.chip.proofs.Each.{each_at, each_past}

module _ (s : System) where
  pub unit_there : (m : ℕ) (u : Unit) → m < length s.units → unit (with_unit s m u) m ≡ u
  unfolding with_units
  unit_there m u h = get_or-set_same s.units m u no_unit h

  pub unit_elsewhere : (m k : ℕ) (u : Unit) → k ≢ m → unit (with_unit s m u) k ≡ unit s k
  unfolding with_units
  unit_elsewhere m k u h = get_or-set_other s.units m k u no_unit h

  pub descriptor_there : (i : ℕ) (d : Descriptor) → i < length s.descriptors → descriptor (with_descriptor s i d) i ≡ d
  unfolding with_descriptor
  descriptor_there i d h = get_or-set_same s.descriptors i d zeros h

  pub descriptor_elsewhere : (i k : ℕ) (d : Descriptor) → k ≢ i → descriptor (with_descriptor s i d) k ≡ descriptor s k
  unfolding with_descriptor
  descriptor_elsewhere i k d h = get_or-set_other s.descriptors i k d zeros h

  pub each_unit : (f : ℕ → Unit → Unit) (m : ℕ) → m < present s → m < length s.units → unit (in_each f s) m ≡ f m (unit s m)
  unfolding with_units
  each_unit f m there h = each_at no_unit (present s) f s.units m there h

  pub past_units : (f : ℕ → Unit → Unit) (m : ℕ) → present s ≤ m → unit (in_each f s) m ≡ unit s m
  unfolding with_units
  past_units f m h = each_past no_unit (present s) f s.units m h

  -- the units' part changes no descriptor and nothing shared, and so on round
  pub same_descriptors : (us : List Unit) (h : Shared) → ((with_units s us).descriptors ≡ s.descriptors) × ((with_shared s h).descriptors ≡ s.descriptors)
  unfolding with_units with_shared
  same_descriptors us h = (refl, refl)

  pub same_shared : (us : List Unit) (i : ℕ) (d : Descriptor) → ((with_units s us).shared ≡ s.shared) × ((with_descriptor s i d).shared ≡ s.shared)
  unfolding with_units with_descriptor
  same_shared us i d = (refl, refl)

  pub same_units : (h : Shared) (i : ℕ) (d : Descriptor) → ((with_shared s h).units ≡ s.units) × ((with_descriptor s i d).units ≡ s.units)
  unfolding with_shared with_descriptor
  same_units h i d = (refl, refl)
