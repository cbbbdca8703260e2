-- What the loop of `put_blocks` keeps.
use Rattle.std.proofs.Common.{◌-◌}
use Rattle.image.specs.Block.{block}
use Rattle.pieces.proofs.Parts.{Done}
use Rattle.image.proofs.write.put_blocks.Given as goal

abbrev pub invariant-loop-m : goal.invariant-loop-m
invariant-loop-m l = Done 512 (block l.system) l.n l.initial.image l.image l.m

abbrev pub decreases-loop-m : goal.decreases-loop-m
decreases-loop-m l = l.n - l.m
