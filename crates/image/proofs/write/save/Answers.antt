-- `save` meets its contract: past the checks all the blocks are written. Assumes nothing.
use Rattle.std.proofs.Common.{◌≡◌, false, length, rules, Ok}
use native.Mathlib.Nat.{min-eq_left}
use Rattle.chip.specs.Answer.{miscounted}
use Rattle.chip.proofs.Counts.{well_counted}
use Rattle.image.specs.Image.{form, saving}
use Rattle.image.proofs.Restored.{saved_form}
use Rattle.image.proofs.write.save.Goals as goal

pub returns-clause-image_after : goal.returns-clause-image_after
unfolding form saving
returns-clause-image_after c =
    let image = c.args.image.now in
    let s = c.args.system in
    let given : saving (length image) s ≡ Ok tt = search rules in
    let few : miscounted s.shared.board.count ≡ false = search rules in
    rw (saved_form image s given, min-eq_left (well_counted s.shared.board.count few)) c.put_blocks.ensures
