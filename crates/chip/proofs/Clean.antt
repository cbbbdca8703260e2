-- The clean form of a system stays where one part is changed to another in clean form.
--     units_clean, unit_clean, shared_clean, descriptor_clean      the four parts
--     empty_clean, fresh_clean         before the first start, and after one
-- Assumes nothing.
use Rattle.std.specs.Prelude.{Option, Some, None}
use Prim.Native.Nat.{ℕ, ◌*◌, ◌^◌, ◌<◌, ◌≤◌}
use mathlib.Core.Path.{◌≡◌, refl, ◌∙◌}
use mathlib.Core.Bool.{false}
use native.Mathlib.Omega.{arith}
use lib.Dec.{ltb, lit<}
use lib.ListN.{get_or, replicate, length-set, get_or-replicate}
use lib.Seq.{get_or-set_other}
use borrow.Author.Tests.{ltb-true, not-false}
use Rattle.masks.specs.Fields.{bit, field}
use Rattle.descriptors.specs.Status.{clean}
use Rattle.descriptors.specs.Descriptor.{zeros}
use Rattle.descriptors.specs.Clean.{CleanDescriptor}
use Rattle.descriptors.proofs.Clean.{zeros_clean}
use Rattle.descriptors.specs.declared.descriptor.Descriptor.{Descriptor}
use Rattle.registers.specs.Unit.{local, no_unit}
use Rattle.registers.specs.Clean.{CleanUnit, CleanShared}
use Rattle.pieces.proofs.Stores.{stored, everywhere}
use Rattle.registers.proofs.Becomes.{same, untold, becomes_clean}
use Rattle.registers.specs.declared.unit.Unit.{Unit}
use Rattle.registers.specs.declared.shared.Board.{Board}
use Rattle.registers.specs.declared.shared.Shared.{Shared}
use Rattle.chip.specs.System.{present, unit, with_units, with_shared, with_descriptor, with_unit, in_each}
use Rattle.chip.specs.Reset.{blank, uninitialized, nothing, identity, unselected, fresh, unselectable}
use Rattle.chip.specs.Clean.{Clean}
use Rattle.chip.specs.declared.system.System.{System}
use Rattle.chip.proofs.Each.{length_each}
use Rattle.chip.proofs.Parts.{each_unit, past_units}

pub units_clean : (s : System) (f : ℕ → Unit → Unit) → Clean s → ((m : ℕ) (u : Unit) → CleanUnit u → CleanUnit (f m u))
    → Clean (in_each f s)
unfolding with_units
units_clean s f c k = record {
  shared = c.shared;
  places = (length_each (present s) f s.units ∙ c.places.0, c.places.1);
  units = λ m h. rw (each_unit s f m h (omega (arith, c.places.0))) (k m (unit s m) (c.units m h));
  descriptors = c.descriptors;
  no_unit = λ m h l. past_units s f m h ∙ c.no_unit m h l;
  no_descriptor = c.no_descriptor;
}

pub unit_clean : (s : System) (m : ℕ) (u : Unit) → Clean s → m < present s → CleanUnit u → Clean (with_unit s m u)
unfolding with_units
unit_clean s m u c h q = record {
  shared = c.shared;
  places = (length-set s.units m u ∙ c.places.0, c.places.1);
  units = stored (λ k u. k < present s → CleanUnit u) no_unit s.units m u (λ l. q) c.units;
  descriptors = c.descriptors;
  no_unit = λ k l j. get_or-set_other s.units m k u no_unit (λ e. omega arith) ∙ c.no_unit k l j;
  no_descriptor = c.no_descriptor;
}

pub shared_clean : (s : System) (h : Shared) → Clean s → CleanShared h → h.board ≡ s.shared.board → Clean (with_shared s h)
unfolding with_shared
shared_clean s h c k e = record {
  shared = k;
  places = c.places;
  units = rw e c.units;
  descriptors = rw e c.descriptors;
  no_unit = rw e c.no_unit;
  no_descriptor = rw e c.no_descriptor;
}

pub descriptor_clean : (s : System) (i : ℕ) (d : Descriptor) → Clean s → i < 32 * present s → CleanDescriptor d → Clean (with_descriptor s i d)
unfolding with_descriptor
descriptor_clean s i d c h q = record {
  shared = c.shared;
  places = (c.places.0, length-set s.descriptors i d ∙ c.places.1);
  units = c.units;
  descriptors = stored (λ k d. k < 32 * present s → CleanDescriptor d) zeros s.descriptors i d (λ l. q) c.descriptors;
  no_unit = c.no_unit;
  no_descriptor = λ k l j. get_or-set_other s.descriptors i k d zeros (λ e. omega arith) ∙ c.no_descriptor k l j;
}

-- ---- 4.5.1

blank_clean : CleanUnit blank
unfolding bit
blank_clean = record { bytes = refl; ac = λ i. rw (everywhere 9 i (local 0)) (lit< tt); dp = lit< tt; rdp = refl; l = lit< tt }

identity_clean : CleanDescriptor identity
unfolding clean field bit
identity_clean = record { lba = lit< tt; lam = lit< tt; pba = lit< tt; asn = lit< tt; ssr = refl; asm = lit< tt }

pub empty_clean : (h : Shared) → CleanShared h → Clean (with_shared nothing h)
unfolding with_shared
empty_clean h c = record {
  shared = c;
  places = (refl, refl);
  units = λ m k. rw (get_or-replicate 6 m blank no_unit (omega arith)) blank_clean;
  descriptors = λ i k. rw (everywhere 192 i zeros) zeros_clean;
  no_unit = λ m k q. get_or-replicate 6 m blank no_unit q;
  no_descriptor = λ i k q. everywhere 192 i zeros;
}

zero_fits : (i : ℕ) → get_or (replicate 16 0) i 0 < 2 ^ 8
zero_fits i = rw (everywhere {A = ℕ} 16 i 0) (lit< tt)

pub nothing_clean : Clean nothing
unfolding with_shared
nothing_clean =
    empty_clean nothing.shared (record { entries = refl; entry = zero_fits; ivr = lit< tt; count = lit< tt })

unselected_clean : (board : Board) → board.count ≤ 6 → Clean (unselected board)
unfolding unselected
unselected_clean board h =
    units_clean _ _
    (empty_clean (uninitialized board)
    (record { entries = refl; entry = zero_fits; ivr = lit< tt; count = omega arith }))
    (λ m u. becomes_clean (untold same))

pub fresh_clean : (board : Board) (unit : Option ℕ) → board.count ≤ 6 → unselectable unit board.count ≡ false → Clean (fresh board unit)
unfolding fresh unselected with_units with_shared
fresh_clean board None h q = unselected_clean board h
fresh_clean board (Some m) h q =
    let below = ltb-true m board.count (not-false (ltb m board.count) q) in
    descriptor_clean (unselected board) (32 * m) identity (unselected_clean board h) (omega arith) identity_clean
