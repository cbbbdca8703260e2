-- `status::rewritten` meets its contract: E as it was decides. Assumes nothing.
use mathlib.Core.Path.{refl}
use Rattle.masks.proofs.Bits.{clear_of, set_of}
use Rattle.descriptors.specs.Status.{E, rewritten}
use Rattle.descriptors.proofs.status.rewritten.Goals as goal

pub returns-then-old-eq0 : goal.returns-then-old-eq0
unfolding rewritten
returns-then-old-eq0 c = rw (clear_of c.args.old E 1 c.if-old-eq0.true refl) c.disabled.ensures

pub returns-else-old-eq0 : goal.returns-else-old-eq0
unfolding rewritten
returns-else-old-eq0 c = rw (set_of c.args.old E 1 c.if-old-eq0.false refl) c.clean.ensures
