-- `same_table` meets its contract: entry after entry. Assumes nothing.
use Rattle.std.proofs.Common.{take, drop, eqb, refl, ◌∙◌, arith, get_or-drop, length-drop, length-take}
use Rattle.std.proofs.lemmas.List.{get_or-take}
use Rattle.image.proofs.Listed.{same_is}
use Rattle.image.proofs.rules.same_table.Goals as goal

pub returns : goal.returns
returns c =
    let a = drop 2 c.args.a.now in
    let b = drop 2 c.args.b.now in
    c.eq.ensures
    ∙ same_is 0 eqb (take 16 a) (take 16 b) 16 _ (simp (length-take, length-drop) (omega arith)) (simp (length-take, length-drop) (omega arith))
    (λ k l. rw (get_or-take 16 a k 0 l, get_or-take 16 b k 0 l, get_or-drop, get_or-drop) refl)
