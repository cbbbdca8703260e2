-- "Every call ends and gives one answer for every input." That each function for C ends, never does anything undefined, and keeps
-- its promise, on any bytes and any numbers, is the theorem that the checker proves of it: here it is named. That it gives at
-- most one answer is in Outcomes.antt.
use Rattle.std.specs.Prelude.{List, ℕ}
use Rattle.demands.specs.Promises.{AtLeastOne}
use Rattle.demands.specs.Histories.{Reached}
use Rattle.cleftromi.proofs.cleftromi_start as cleftromi_start
use Rattle.cleftromi.proofs.cleftromi_reset as cleftromi_reset
use Rattle.cleftromi.proofs.cleftromi_access as cleftromi_access
use Rattle.cleftromi.proofs.cleftromi_register as cleftromi_register
use Rattle.cleftromi.proofs.cleftromi_acknowledge as cleftromi_acknowledge
use Rattle.cleftromi.proofs.cleftromi_save as cleftromi_save
use Rattle.cleftromi.proofs.cleftromi_restore as cleftromi_restore

pub record Totality : Type 2 where
  pub start : (M : Type 1) → cleftromi_start.Statement.statement M
  pub reset : (M : Type 1) → cleftromi_reset.Statement.statement M
  pub access : (M : Type 1) → cleftromi_access.Statement.statement M
  pub register : (M : Type 1) → cleftromi_register.Statement.statement M
  pub acknowledge : (M : Type 1) → cleftromi_acknowledge.Statement.statement M
  pub save : (M : Type 1) → cleftromi_save.Statement.statement M
  pub restore : (M : Type 1) → cleftromi_restore.Statement.statement M

-- and no claim over the promises is empty: each can be kept, whatever the arguments, and some block is reached
pub record NotEmpty : Type 0 where
  pub start : AtLeastOne cleftromi_start.Kinds.ps cleftromi_start.Kinds.r cleftromi_start.Reads.Post
  pub reset : AtLeastOne cleftromi_reset.Kinds.ps cleftromi_reset.Kinds.r cleftromi_reset.Reads.Post
  pub access : AtLeastOne cleftromi_access.Kinds.ps cleftromi_access.Kinds.r cleftromi_access.Reads.Post
  pub register : AtLeastOne cleftromi_register.Kinds.ps cleftromi_register.Kinds.r cleftromi_register.Reads.Post
  pub acknowledge : AtLeastOne cleftromi_acknowledge.Kinds.ps cleftromi_acknowledge.Kinds.r cleftromi_acknowledge.Reads.Post
  pub save : AtLeastOne cleftromi_save.Kinds.ps cleftromi_save.Kinds.r cleftromi_save.Reads.Post
  pub restore : AtLeastOne cleftromi_restore.Kinds.ps cleftromi_restore.Kinds.r cleftromi_restore.Reads.Post
  pub reached : (b : List ℕ) × Reached b
