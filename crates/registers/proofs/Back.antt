-- What is written of a register is read again.
--     held_l, held_rw     L and RW, from what a unit holds of its LSR
--     gsr_back            the GSR
--     accumulator_back    the nine bytes with their marks
-- Assumes nothing.
use Prim.Native.Nat.{◌+◌, ◌*◌, ◌/◌, ◌%◌, ◌^◌, ◌<◌}
use mathlib.Core.Path.{◌≡◌, refl, ◌∙◌}
use mathlib.Core.Bool.{Bool, true, false}
use native.Mathlib.Omega.{arith}
use lib.ListN.{length, get_or}
use Rattle.masks.specs.Fields.{bit}
use Rattle.masks.proofs.Bits.{bit_field}
use Rattle.pieces.specs.Pieces.{list_of}
use Rattle.pieces.proofs.Stores.{listed_as, at_listed, listed_alike}
use Rattle.registers.specs.Unit.{RW, l_of, rw_of, local, byte, ac, marks, marked, accumulator_of, flag, held_lsr}
use Rattle.registers.specs.Shared.{gsr_of, gsr_byte}
use Rattle.registers.specs.declared.unit.Unit.{Unit}
use Rattle.registers.specs.declared.shared.Gsr.{Gsr}
use Rattle.registers.proofs.Numbers.{small}

pub held_l : (u : Unit) → u.l < 2 ^ 4 → l_of (held_lsr u) ≡ u.l
held_l u h = omega (arith, small u.rw)

pub held_rw : (u : Unit) → rw_of (held_lsr u) ≡ u.rw
unfolding bit
held_rw u = go u.rw
  where
    go : (b : Bool) → bit (16 * (u.l % 16) + 8 * flag b) RW ≡ b
    go true = let odd : (16 * (u.l % 16) + 8) / 8 % 2 ≡ 1 = omega arith in rw odd
    go false = let even : (16 * (u.l % 16) + 0) / 8 % 2 ≡ 0 = omega arith in rw even

pub gsr_back : (g : Gsr) → gsr_of (gsr_byte g) ≡ g
unfolding bit
gsr_back g = go g.f g.df g.ie
  where
    go : (f df ie : Bool) → let g : Gsr = record { f = f; df = df; ie = ie } in gsr_of (gsr_byte g) ≡ g
    go true true true = refl
    go true true false = refl
    go true false true = refl
    go true false false = refl
    go false true true = refl
    go false true false = refl
    go false false true = refl
    go false false false = refl

pub accumulator_back : (u : Unit) → length u.accumulator ≡ 9 → accumulator_of (list_of 9 (ac u)) (marks u) ≡ u.accumulator
unfolding accumulator_of marks
accumulator_back u e =
    listed_alike 9 (λ i. marked (get_or (list_of 9 (ac u)) i 0) (marks u) i) (byte u)
    (λ i h. rw (at_listed 0 9 (ac u) i h, bit_field 9 (λ i. (byte u i).global) i h))
    ∙ listed_as (local 0) 9 u.accumulator e
