-- What the loop of `search` keeps.
use Rattle.chip.proofs.Passed.{Passed}
use Rattle.chip.proofs.system.System.search.Given as goal

abbrev pub invariant-loop-i : goal.invariant-loop-i
invariant-loop-i l = Passed l.logical.page l.logical.number l.fn.self l.near l.i
