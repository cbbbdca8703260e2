-- `restore` meets its contract: the length, then block after block, then the rules across them. Assumes nothing.
use Rattle.std.proofs.Common.{◌≡◌, ◌<◌, false, length, sym, ◌∙◌, rules}
use Rattle.pieces.specs.Pieces.{pieces}
use Rattle.image.specs.Image.{blocks, system_of, across, misfit, checks_at, checks, restored}
use Rattle.image.proofs.Accepted.{well_sized}
use Rattle.image.proofs.Checked.{past, stays}
use Rattle.image.proofs.Front.{table_front, across_front, system_front}
use Rattle.image.proofs.read.restore.Goals as goal

pub returns-in_err-examined : goal.returns-in_err-examined
unfolding restored checks
returns-in_err-examined c =
    let image = c.args.image.now in
    let fit : misfit (length image) ≡ false = search rules in
    let bad = sym (rw (c.as_chunks.ensures.front, table_front image) at c.examined.ensures) ∙ c.in_err-examined.was in
    rw (fit, stays (system_of image) _ (pieces (blocks image) (checks_at image)) _ bad) (search rules)

pub returns-in_err-refuse-2 : goal.returns-in_err-refuse-2
unfolding restored checks across
returns-in_err-refuse-2 c =
    let image = c.args.image.now in
    let fit : misfit (length image) ≡ false = search rules in
    let some : 0 < blocks image = (well_sized (length image) fit).some in
    let none = sym (rw (c.as_chunks.ensures.front, table_front image) at c.examined.ensures) ∙ c.in_ok-examined.was in
    let system : c.system_of-system.result ≡ system_of image = c.system_of-system.ensures ∙ rw c.as_chunks.ensures.front (system_front image some) in
    let kept : c.across.result ≡ across image = rw (c.as_chunks.ensures.front, across_front image some, system) at c.across.ensures in
    rw (fit, past (system_of image) _ (pieces (blocks image) (checks_at image)) none, ← kept) (search rules)

pub returns : goal.returns
unfolding restored checks across
returns c =
    let image = c.args.image.now in
    let fit : misfit (length image) ≡ false = search rules in
    let some : 0 < blocks image = (well_sized (length image) fit).some in
    let none = sym (rw (c.as_chunks.ensures.front, table_front image) at c.examined.ensures) ∙ c.in_ok-examined.was in
    let system : c.system_of-system.result ≡ system_of image = c.system_of-system.ensures ∙ rw c.as_chunks.ensures.front (system_front image some) in
    let kept : c.across.result ≡ across image = rw (c.as_chunks.ensures.front, across_front image some, system) at c.across.ensures in
    rw (fit, past (system_of image) _ (pieces (blocks image) (checks_at image)) none, ← kept, ← system) (search rules)
