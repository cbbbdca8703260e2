-- `statuses_allowed` meets its contract: descriptor after descriptor. Assumes nothing.
use Rattle.std.proofs.Common.{◌≡◌, ℕ, List, get_or, refl, ◌∙◌, arith, get_or-drop, rules, tests}
use Rattle.std.specs.List.{range_with_len}
use Rattle.std.proofs.lemmas.Iterator.{YieldsList-from_range}
use Rattle.std.proofs.lemmas.Iterator.Search.{all_from_yields_List}
use Rattle.std.proofs.lemmas.List.FromFn.{get_or-range_with_len}
use Rattle.image.specs.Block.{ssr, descriptor_of}
use Rattle.image.specs.Rules.{allowed}
use Rattle.image.proofs.Listed.{all_is}
use Rattle.image.proofs.block.statuses_allowed.Goals as goal

-- the status of a descriptor that was read
same : (b : List ℕ) (n : ℕ) → allowed (descriptor_of n b).ssr ≡ allowed (ssr n b)
unfolding descriptor_of
same b n = rw get_or-drop refl

pub returns : goal.returns
returns c =
    let b = c.args.b.now in
    all_from_yields_List (λ n. allowed (descriptor_of n b).ssr) _ _ c.all.result c.all.ensures.ran (YieldsList-from_range 0 32 32 (cc) refl) (λ x r q k. search (rules, tests))
    ∙ all_is 0 (λ n. allowed (descriptor_of n b).ssr) (range_with_len 0 32) 32 _ refl (λ k l. let at : get_or (range_with_len 0 32) k 0 ≡ k = get_or-range_with_len 0 32 k 0 l ∙ omega arith in rw at (same b k))
