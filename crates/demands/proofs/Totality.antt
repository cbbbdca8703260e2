-- The checker's theorems of the functions for C; that their promises can be kept; and a block that is reached. Assumes nothing.
use Rattle.std.specs.Prelude.{Some}
use Prim.Native.Nat.{ℕ}
use mathlib.Core.Path.{◌≡◌, refl, ◌∙◌}
use mathlib.Core.List.{List, []}
use lib.Dec.{lit<}
use lib.ListN.{length, replicate, length-replicate}
use Rattle.cleftromi.proofs.cleftromi_start as cleftromi_start
use Rattle.cleftromi.proofs.cleftromi_reset as cleftromi_reset
use Rattle.cleftromi.proofs.cleftromi_access as cleftromi_access
use Rattle.cleftromi.proofs.cleftromi_register as cleftromi_register
use Rattle.cleftromi.proofs.cleftromi_acknowledge as cleftromi_acknowledge
use Rattle.cleftromi.proofs.cleftromi_save as cleftromi_save
use Rattle.cleftromi.proofs.cleftromi_restore as cleftromi_restore
use Rattle.chip.specs.declared.call.Call.TheVariants as call
use Rattle.cleftromi.specs.Interface.{answer, after}
use Rattle.demands.specs.Histories as histories
use Rattle.demands.specs.Histories.{Start}
use Rattle.demands.specs.Totality.{Totality, NotEmpty}
use Rattle.demands.proofs.Refusals.{demand_1}

pub totality : Totality
totality = record {
  start = λ M. cleftromi_start.Met.met;
  reset = λ M. cleftromi_reset.Met.met;
  access = λ M. cleftromi_access.Met.met;
  register = λ M. cleftromi_register.Met.met;
  acknowledge = λ M. cleftromi_acknowledge.Met.met;
  save = λ M. cleftromi_save.Met.met;
  restore = λ M. cleftromi_restore.Met.met;
}

-- a start of one unit on 4,096 zeros
zeros : List ℕ
zeros = replicate 4096 0

as_long : length zeros ≡ 4096
unfolding zeros
as_long = length-replicate {A = ℕ} 4096 0

begun : Start 1 0 zeros (answer (call.Start 1 (Some 0)) zeros) (after (call.Start 1 (Some 0)) zeros)
begun = record {
  lifetimes = ([], tt);
  places = λ j. ((0, 0), 0);
  within = ((rw as_long (lit< tt), rw as_long (lit< tt)), ((refl, lit< tt), ((refl, lit< tt), tt)));
  kept = (refl, refl);
}

pub not_empty : NotEmpty
not_empty = record {
  start = λ κs a. (_, (_, (tt, (tt, tt))), (refl, refl));
  reset = λ κs a. (_, (_, (tt, tt)), (refl, refl));
  access = λ κs a. (_, (_, (tt, (tt, (tt, tt)))), (refl, refl));
  register = λ κs a. (_, (_, (tt, (tt, (tt, (tt, tt))))), (refl, refl));
  acknowledge = λ κs a. (_, (_, (tt, tt)), (refl, refl));
  save = λ κs a. (_, (_, (_, tt)), (refl, (refl, refl)));
  restore = λ κs a. (_, (_, (tt, tt)), (refl, refl));
  reached = (_, histories.started begun ((demand_1.refused (histories.start begun)).exactly ∙ rw as_long));
}
