-- What the loop of `put_units` keeps.
use Rattle.std.proofs.Common.{length, get_or}
use Rattle.registers.specs.Unit.{no_unit}
use Rattle.block.specs.Layout.{unit_bytes}
use Rattle.pieces.proofs.Parts.{Done}
use Rattle.block.proofs.write.put_units.Given as goal

abbrev pub invariant-loop-m : goal.invariant-loop-m
invariant-loop-m l = Done 16 (λ k. unit_bytes (get_or l.units k no_unit)) (length l.units) l.initial.b l.b l.m
