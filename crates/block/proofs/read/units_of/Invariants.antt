-- What the loop of `units_of` keeps: the units before this one are read.
use Rattle.std.proofs.Common.{◌≡◌, drop}
use Rattle.chip.specs.System.{each}
use Rattle.block.specs.Layout.{unit_place, unit_of}
use Rattle.block.proofs.read.units_of.Given as goal

abbrev pub invariant-loop-m : goal.invariant-loop-m
invariant-loop-m l = l.unit-items ≡ each l.m (λ k u. unit_of (drop (unit_place k) l.b)) l.initial.unit-items
