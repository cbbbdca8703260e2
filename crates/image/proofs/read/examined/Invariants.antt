-- What the loop of `examined` keeps.
use Rattle.std.proofs.Common.{◌≡◌, ◌≤◌, length, Ok}
use Rattle.pieces.specs.Pieces.{pieces}
use Rattle.chip.specs.Answer.{passed}
use Rattle.image.specs.Image.{block_at, block_checks}
use Rattle.image.proofs.read.examined.Given as goal

abbrev pub invariant-loop-m : goal.invariant-loop-m
invariant-loop-m l = (l.m ≤ length l.blocks) × (passed (pieces l.m (λ m. block_checks (length l.blocks) m (block_at l.blocks m))) ≡ Ok tt)
