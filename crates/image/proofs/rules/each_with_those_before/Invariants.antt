-- What the loop of `each_with_those_before` keeps.
use Rattle.std.proofs.Common.{◌≡◌, ◌≤◌, Bool, true, length}
use Rattle.masks.specs.Fields.{every}
use Rattle.image.specs.Pairs.{Answers, AnswersOfTwo}
use Rattle.image.proofs.Pairs.{row}
use Rattle.image.proofs.rules.each_with_those_before.Given as goal

abbrev pub invariant-loop-i : goal.invariant-loop-i
invariant-loop-i g l =
    (l.i ≤ length l.items)
    × ((d : g.row.T.Denot) (a : g.row.T.Denot → Bool) (p : g.row.T.Denot → g.row.T.Denot → Bool) → Answers g.A.Fn l.asked a → AnswersOfTwo g.P.Fn l.passes p
    → every l.i (row d a p l.items) ≡ true)
