-- `examined` meets its contract: block after block, the first bad one decides. Assumes nothing.
use Rattle.std.proofs.Common.{◌≡◌, ℕ, Bool, List, length, sym, refl, ap, ◌∙◌, arith}
use Rattle.std.proofs.lemmas.Result.{err_from_is_err_and}
use Rattle.pieces.specs.Pieces.{pieces}
use Rattle.image.specs.declared.refusal.Refusal.{Refusal}
use Rattle.chip.specs.Answer.{passed}
use Rattle.image.specs.Image.{block_at, block_checks}
use Rattle.image.proofs.Checked.{one_more, stopped}
use Rattle.image.proofs.read.examined.Goals as goal

-- the checks of block m
abbrev table : (blocks : List (List ℕ)) (m : ℕ) → List (Refusal × Bool)
table bs m = block_checks (length bs) m (block_at bs m)

pub loop-m-init : goal.loop-m-init
unfolding pieces
loop-m-init c = (omega arith, refl)

pub returns-in_err-block_refusal : goal.returns-in_err-block_refusal
returns-in_err-block_refusal c =
    let at = c.loop-m in
    let bs = c.args.blocks.now in
    let told = err_from_is_err_and c.from_residual.result c.from_residual.ensures.1 in
    let refused = sym c.block_refusal.ensures ∙ c.in_err-block_refusal.was in
    rw (told.1, told.2) (sym (stopped (table bs) (length bs) at.m _ (omega arith) at.invariant.1 refused))

pub loop-m-preserved : goal.loop-m-preserved
loop-m-preserved c =
    let at = c.loop-m in
    let passed = sym c.block_refusal.ensures ∙ c.in_ok-block_refusal.was in
    (omega arith, one_more (table c.args.blocks.now) at.m at.invariant.1 passed)

pub returns : goal.returns
returns c =
    let all : c.loop-m.m ≡ length c.args.blocks.now = omega arith in
    sym (ap (λ (k : ℕ). passed (pieces k (table c.args.blocks.now))) (sym all) ∙ c.loop-m.invariant.1)
