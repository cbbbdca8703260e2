-- `System::blame` meets its contract: the units below k have their part, the others are as they were. Assumes nothing.
use Rattle.std.proofs.Common.{ℕ, ◌*◌, ◌≡◌, ap, ◌∙◌, Option, length, rules, arith}
use borrow.Author.Tests.{tests}
use Rattle.std.proofs.lemmas.Iterator.{YieldsList-from_slice}
use Rattle.std.proofs.lemmas.Iterator.Search.{position_from_yields_List}
use Rattle.descriptors.specs.Descriptor.{collides, zeros}
use Rattle.registers.proofs.Numbers.{counted}
use Rattle.chip.specs.System.{unit, with_units}
use Rattle.chip.specs.Search.{in_unit}
use Rattle.chip.specs.Load.{blame}
use Rattle.chip.specs.declared.system.System.{System}
use Rattle.chip.proofs.Sought.{position_first, blame_same}
use Rattle.chip.proofs.Units.{begun, next, ended}
use Rattle.chip.proofs.system.System.blame.Goals as goal

pub loop-k-preserved : goal.loop-k-preserved
unfolding with_units
loop-k-preserved c =
    let at = c.loop-k in
    let d = c.args.d in
    let u = unit at.self at.k in
    let size : length at.self.descriptors ≡ 192 = search (rules, counted) in
    next _ at.self _ at.k _ c.blame.result at.invariant c.loop-k-test.true
    (c.blame.ensures
    ∙ ap (λ (f : Option ℕ). blame f u) (position_from_yields_List (collides d) _ _ _ c.position-lowest.ensures.ran (YieldsList-from_slice c.in_unit.result.now cc) (λ x b q k. search (rules, tests)))
    ∙ rw c.in_unit.ensures (blame_same at.k _ u ∙ ap (λ (f : Option ℕ). blame f u) (position_first (collides d) zeros at.self.descriptors (32 * at.k) 32 (omega (arith, size))))
    ∙ ap (λ (s : System). blame (in_unit (collides d) at.k s) u) at.invariant.2)

pub returns : goal.returns
returns c = ended _ _ _ _ _ c.loop-k.invariant c.loop-k-test.false c.present-n.ensures

pub loop-k-init : goal.loop-k-init
loop-k-init c = begun _ _ _ c.present-n.ensures
