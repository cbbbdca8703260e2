-- `same_shared` meets its contract: block after block. Assumes nothing.
use Rattle.std.proofs.Common.{[], refl, ◌∙◌, rules, tests}
use Rattle.std.proofs.lemmas.Iterator.{YieldsList-from_slice}
use Rattle.std.proofs.lemmas.Iterator.Search.{all_from_yields_List}
use Rattle.image.specs.Rules.{same_shared}
use Rattle.image.specs.Image.{block_at}
use Rattle.image.proofs.Listed.{all_is}
use Rattle.image.proofs.read.same_shared.Goals as goal

pub returns : goal.returns
returns c =
    let bs = c.args.blocks.now in
    let test = same_shared (block_at bs 0) in
    all_from_yields_List test _ _ c.all.result c.all.ensures.ran (YieldsList-from_slice bs cc) (λ x b q k. search (rules, tests))
    ∙ all_is [] test bs _ _ refl (λ k l. refl)
