-- What the loop of `descriptors_of` keeps: the descriptors before this one are read.
use Rattle.std.proofs.Common.{◌≡◌, drop}
use Rattle.chip.specs.System.{each}
use Rattle.block.specs.Layout.{descriptor_place, descriptor_of}
use Rattle.block.proofs.read.descriptors_of.Given as goal

abbrev pub invariant-loop-i : goal.invariant-loop-i
invariant-loop-i l = l.descriptor-items ≡ each l.i (λ k d. descriptor_of (drop (descriptor_place k) l.b)) l.initial.descriptor-items
