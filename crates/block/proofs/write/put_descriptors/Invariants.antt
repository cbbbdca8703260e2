-- What the loop of `put_descriptors` keeps.
use Rattle.std.proofs.Common.{length, get_or}
use Rattle.descriptors.specs.Descriptor.{zeros}
use Rattle.block.specs.Layout.{descriptor_bytes}
use Rattle.pieces.proofs.Parts.{Done}
use Rattle.block.proofs.write.put_descriptors.Given as goal

abbrev pub invariant-loop-i : goal.invariant-loop-i
invariant-loop-i l = Done 9 (λ k. descriptor_bytes (get_or l.descriptors k zeros)) (length l.descriptors) l.initial.b l.b l.i
