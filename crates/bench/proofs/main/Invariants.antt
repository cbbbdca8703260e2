-- What the loop of `main` keeps: the buffer stays as long as it is, and the turns run out.
use Rattle.std.proofs.Common.{◌≡◌, length}
use Rattle.bench.proofs.main.Given as goal

abbrev pub invariant-loop-turns : goal.invariant-loop-turns
invariant-loop-turns l = 4096 ≡ length l.buffer

abbrev pub decreases-loop-turns : goal.decreases-loop-turns
decreases-loop-turns l = l.turns
