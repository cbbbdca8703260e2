-- What a function promises is what the definition of its call says.
--     Made c b r e     the call c finds the bytes b, answers r and leaves e, by the definitions
--     made             a call from C that asks for c
--     MadeSave, made_save, MadeRestore, made_restore      the same of a save and of a restore
-- Assumes nothing.
use Prim.Native.Nat.{ℕ, ◌<◌, ◌^◌}
use mathlib.Core.Path.{◌≡◌}
use mathlib.Core.Bool.{Bool, true, false, cond}
use mathlib.Core.List.{List}
use lib.Dec.{eqb, lit<}
use Rattle.chip.specs.declared.call.Call.{Call}
use Rattle.chip.specs.declared.call.Call.TheVariants as call
use Rattle.chip.specs.declared.register.Operation.TheVariants as operation
use Rattle.chip.proofs.Steps.{bus}
use Rattle.pieces.specs.Pieces.{Bytes}
use Rattle.cleftromi.specs.Interface.{operation_by, answer, after, save_answer, save_after, save_image, restore_answer, restore_after}
use Rattle.demands.specs.Histories.{Save, Restore, Asks, start, reset, access, register, acknowledge}

pub record Made (c : Call) (b : List ℕ) (r : ℕ) (e : List ℕ) : Type 0 where
  pub byte : bus c < 2 ^ 8
  pub answered : r ≡ answer c b
  pub left : e ≡ after c b

-- the value on the bus is a byte: its type says so
on_the_bus : (unit address direction value : ℕ) → value < 2 ^ 8 → bus (call.Register unit address (operation_by direction value)) < 2 ^ 8
on_the_bus unit address direction value h = go (eqb direction 0)
  where
    go : (b : Bool) → bus (call.Register unit address (cond b operation.Read (operation.Write value))) < 2 ^ 8
    go true = lit< tt
    go false = h

pub made : {c : Call} {r : ℕ} {b e : List ℕ} → Asks c b r e → Made c b r e
made (start k) = record { byte = lit< tt; answered = k.kept.0; left = k.kept.1 }
made (reset k) = record { byte = lit< tt; answered = k.kept.0; left = k.kept.1 }
made (access k) = record { byte = lit< tt; answered = k.kept.0; left = k.kept.1 }
made (register {unit} {address} {direction} {value} k) = record {
  byte = on_the_bus unit address direction value k.within.1.1.1.1.0.1;
  answered = k.kept.0;
  left = k.kept.1;
}
made (acknowledge k) = record { byte = lit< tt; answered = k.kept.0; left = k.kept.1 }

pub record MadeSave (image saved b : List ℕ) (r : ℕ) (e : List ℕ) : Type 0 where
  pub answered : r ≡ save_answer b image
  pub left : e ≡ save_after b image
  pub holds : saved ≡ save_image b image

pub made_save : {image saved b e : List ℕ} {r : ℕ} → Save image saved b r e → MadeSave image saved b r e
made_save k = record { answered = k.kept.0; left = k.kept.1.0; holds = k.kept.1.1 }

pub record MadeRestore (image b : List ℕ) (r : ℕ) (e : List ℕ) : Type 0 where
  pub bytes : Bytes image
  pub answered : r ≡ restore_answer b image
  pub left : e ≡ restore_after b image

pub made_restore : {image b e : List ℕ} {r : ℕ} → Restore image b r e → MadeRestore image b r e
made_restore k = record { bytes = k.0; answered = k.1.kept.0; left = k.1.kept.1 }
