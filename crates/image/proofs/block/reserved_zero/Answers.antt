-- `reserved_zero` meets its contract: byte after byte. Assumes nothing.
use Rattle.std.proofs.Common.{take, drop, eqb, refl, ◌∙◌, arith, get_or-drop, length-drop, length-take, rules, tests}
use Rattle.std.proofs.lemmas.Iterator.{YieldsList-from_slice}
use Rattle.std.proofs.lemmas.Iterator.Search.{all_from_yields_List}
use Rattle.std.proofs.lemmas.List.{get_or-take}
use Rattle.image.proofs.Listed.{all_is}
use Rattle.image.proofs.block.reserved_zero.Goals as goal

pub returns : goal.returns
returns c =
    let from = drop 322 c.args.b.now in
    all_from_yields_List (λ x. eqb x 0) _ _ c.all.result c.all.ensures.ran (YieldsList-from_slice (take 188 from) cc) (λ x b q k. search (rules, tests))
    ∙ all_is 0 (λ x. eqb x 0) (take 188 from) 188 _ (simp (length-take, length-drop) (omega arith))
    (λ k l. rw (get_or-take 188 from k 0 l, get_or-drop) refl)
