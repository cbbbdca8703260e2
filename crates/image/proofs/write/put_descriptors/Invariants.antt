-- What the loop of `put_descriptors` keeps.
use Rattle.std.proofs.Common.{length, get_or}
use Rattle.descriptors.specs.Descriptor.{zeros, bytes}
use Rattle.pieces.proofs.Parts.{Done}
use Rattle.image.proofs.write.put_descriptors.Given as goal

abbrev pub invariant-loop-n : goal.invariant-loop-n
invariant-loop-n l = Done 9 (λ k. bytes (get_or l.descriptors k zeros)) (length l.descriptors) l.initial.b l.b l.n
