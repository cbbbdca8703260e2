-- What was written is read again.
--     descriptor_back, unit_back, shared_back     each piece
--     system_back      a system in clean form is what its written form reads as, whatever follows
-- Assumes nothing.
use Prim.Native.Nat.{ℕ, ◌*◌, ◌-◌, ◌%◌, ◌<◌, ◌≤◌}
use mathlib.Core.Path.{◌≡◌, refl, sym, ap}
use mathlib.Core.List.{List, ◌++◌, append_assoc}
use native.Mathlib.Omega.{arith}
use lib.ListN.{length, drop, get_or, replicate, length-append, length-replicate}
use lib.Seq.{take_at, drop_at, drop-drop}
use borrow.Author.Tests.{le-ltb}
use Rattle.pieces.specs.Pieces.{pieces}
use Rattle.pieces.proofs.Bytes.{word_back}
use Rattle.pieces.proofs.Parts.{length_pieces, pieces_at}
use Rattle.descriptors.specs.Descriptor.{zeros}
use Rattle.registers.specs.Unit.{marks, no_unit}
use Rattle.registers.proofs.Back.{held_l, held_rw, gsr_back, accumulator_back}
use Rattle.chip.specs.Reset.{blank}
use Rattle.descriptors.specs.declared.descriptor.Descriptor.{Descriptor}
use Rattle.registers.specs.declared.unit.Unit.{Unit}
use Rattle.registers.specs.declared.shared.Shared.{Shared}
use Rattle.chip.specs.declared.system.System.{System}
use Rattle.block.specs.Layout.{size, unit_place, descriptor_place, unit_bytes, descriptor_bytes, shared_bytes, form}
use Rattle.block.specs.Layout.{unit_of, descriptor_of, shared_of, system_of, read}
use Rattle.chip.specs.System.{present, unit, descriptor}
use Rattle.chip.proofs.Each.{filled_is}
use Rattle.descriptors.specs.Clean.{CleanDescriptor}
use Rattle.registers.specs.Clean.{CleanUnit, CleanShared}
use Rattle.chip.specs.Clean.{Clean}

pub descriptor_back : (d : Descriptor) (r : List ℕ) → CleanDescriptor d → descriptor_of (descriptor_bytes d ++ r) ≡ d
unfolding descriptor_of descriptor_bytes
descriptor_back d r c = rw (word_back d.lba, word_back d.lam, word_back d.pba, c.ssr)

pub unit_back : (u : Unit) (r : List ℕ) → CleanUnit u → unit_of (unit_bytes u ++ r) ≡ u
unfolding unit_of unit_bytes
unit_back u r c =
    let five : u.dp % 32 ≡ u.dp = omega (arith, c.dp) in
    rw (word_back (marks u), accumulator_back u c.bytes, five, c.rdp, held_l u c.l, held_rw u)

pub shared_back : (h : Shared) (r : List ℕ) → CleanShared h → shared_of (shared_bytes h ++ r) ≡ h
unfolding shared_of shared_bytes
shared_back h r c =
    let small : h.board.count % 256 ≡ h.board.count = omega (arith, c.count) in
    rw (take_at h.table r 16 c.entries, gsr_back h.gsr, small)

-- The parts of a block that a system was written to
module _ (s : System) (table : length s.shared.table ≡ 16) (r : List ℕ) where
  units : List ℕ
  units = pieces (present s) (λ m. unit_bytes (unit s m))

  descriptors : List ℕ
  descriptors = pieces (32 * present s) (λ i. descriptor_bytes (descriptor s i))

  length_shared : length (shared_bytes s.shared) ≡ 32
  unfolding shared_bytes
  length_shared = rw table

  length_units : length units ≡ 16 * present s
  unfolding units unit_bytes
  length_units = length_pieces 16 _ (λ m. refl) (present s)

  length_descriptors : length descriptors ≡ 9 * (32 * present s)
  unfolding descriptors descriptor_bytes
  length_descriptors = length_pieces 9 _ (λ i. refl) (32 * present s)

  pub length_form : length (form s) ≡ size
  unfolding form units descriptors
  length_form = simp (length-append, length-replicate) (omega (arith, length_shared, length_units, length_descriptors))

  past_descriptors : List ℕ
  past_descriptors = replicate (3968 - 288 * present s) 0 ++ r

  past_units : List ℕ
  past_units = replicate (16 * (6 - present s)) 0 ++ (descriptors ++ past_descriptors)

  from_units : drop 32 (form s ++ r) ≡ units ++ past_units
  unfolding form units descriptors past_units past_descriptors
  from_units = simp append_assoc (drop_at (shared_bytes s.shared) (units ++ past_units) 32 length_shared)

  from_descriptors : drop 128 (form s ++ r) ≡ descriptors ++ past_descriptors
  unfolding form units descriptors past_descriptors
  from_descriptors =
      let before : List ℕ = shared_bytes s.shared ++ units ++ replicate (16 * (6 - present s)) 0 in
      let long : length before ≡ 128 = simp (length-append, length-replicate) (omega (arith, length_shared, length_units)) in
      rw (append_assoc, append_assoc) (drop_at before (descriptors ++ past_descriptors) 128 long)

  unit_at : (m : ℕ) → m < present s → CleanUnit (unit s m) → unit_of (drop (unit_place m) (form s ++ r)) ≡ unit s m
  unfolding units unit_bytes
  unit_at m h c =
      let p = pieces_at 16 (λ m. unit_bytes (unit s m)) (λ m. refl) (present s) m past_units h in
      rw (← drop-drop (16 * m) 32 (form s ++ r), from_units, p.1) (unit_back (unit s m) p.0 c)

  descriptor_at : (i : ℕ) → i < 32 * present s → CleanDescriptor (descriptor s i)
      → descriptor_of (drop (descriptor_place i) (form s ++ r)) ≡ descriptor s i
  unfolding descriptors descriptor_bytes
  descriptor_at i h c =
      let p = pieces_at 9 (λ i. descriptor_bytes (descriptor s i)) (λ i. refl) (32 * present s) i past_descriptors h in
      rw (← drop-drop (9 * i) 128 (form s ++ r), from_descriptors, p.1) (descriptor_back (descriptor s i) p.0 c)

  shared_at : CleanShared s.shared → shared_of (form s ++ r) ≡ s.shared
  unfolding form units descriptors past_units past_descriptors
  shared_at c = simp append_assoc (shared_back s.shared (units ++ past_units) c)

  count_at : CleanShared s.shared → get_or (form s ++ r) 0 0 ≡ s.shared.board.count
  unfolding shared_of
  count_at c = ap (λ (h : Shared). h.board.count) (shared_at c)

pub system_back : (s : System) (r : List ℕ) → Clean s → read (form s ++ r) ≡ s
unfolding read system_of
system_back s r c =
    let table = c.shared.entries in
    let long : size ≤ length (form s ++ r) = simp length-append (omega (arith, length_form s table r)) in
    rw (
      le-ltb (length (form s ++ r)) size long,
      count_at s table r c.shared,
      shared_at s table r c.shared,
      filled_is zeros (32 * present s) 192 (λ i. descriptor_of (drop (descriptor_place i) (form s ++ r))) zeros s.descriptors
          c.places.1 (λ i h k. descriptor_at s table r i h (c.descriptors i h)) (λ i h k. sym (c.no_descriptor i h k)),
      filled_is no_unit (present s) 6 (λ m. unit_of (drop (unit_place m) (form s ++ r))) blank s.units c.places.0
          (λ m h k. unit_at s table r m h (c.units m h)) (λ m h k. sym (c.no_unit m h k)),
    )
