-- `status::used` meets its contract: I decides, and each or sets its bit. Assumes nothing.
use mathlib.Core.Path.{refl}
use lib.Dec.{lit<}
use Rattle.masks.proofs.Bits.{clear_of, set_of}
use Rattle.descriptors.specs.Status.{I, IP, U, raise, used}
use Rattle.descriptors.proofs.Tests.{raised, raise_fits}
use Rattle.descriptors.proofs.status.used.Goals as goal

pub returns-then-ssr-eq0 : goal.returns-then-ssr-eq0
unfolding used
returns-then-ssr-eq0 c =
    let ssr = c.args.ssr in
    rw (clear_of ssr I 16 c.if-ssr-eq0.true refl) (raised ssr U 128 c.ranges.ssr.fits (lit< tt) refl)

pub returns-else-ssr-eq0 : goal.returns-else-ssr-eq0
unfolding used
returns-else-ssr-eq0 c =
    let ssr = c.args.ssr in
    rw (set_of ssr I 16 c.if-ssr-eq0.false refl, raised ssr U 128 c.ranges.ssr.fits (lit< tt) refl)
    (raised (raise U ssr) IP 8 (raise_fits U ssr) (lit< tt) refl)
