-- `descriptors_of` meets its contract: the first descriptors are read, the others are as they were. Assumes nothing.
use Rattle.std.proofs.Common.{◌≡◌, refl, ap, ◌∙◌, length, drop, rules, arith}
use Rattle.descriptors.specs.Descriptor.{zeros}
use Rattle.registers.proofs.Numbers.{counted}
use Rattle.chip.specs.System.{each}
use Rattle.chip.specs.declared.system.System.{System}
use Rattle.chip.proofs.Each.{front_next, front_ended}
use Rattle.pieces.proofs.Parts.{rest}
use Rattle.block.specs.Layout.{descriptor_place, descriptor_of}
use Rattle.block.proofs.read.descriptors_of.Goals as goal

pub loop-i-init : goal.loop-i-init
unfolding each
loop-i-init c = refl

pub loop-i-preserved : goal.loop-i-preserved
loop-i-preserved c =
    front_next zeros c.args.n (λ k x. descriptor_of (drop (descriptor_place k) c.args.b.now)) c.nothing.result.descriptors c.loop-i.i _ _ c.loop-i.invariant
    (rw rest at c.descriptor_of.ensures)

pub returns : goal.returns
returns c =
    let all : length c.nothing.result.descriptors ≡ 192 = search (rules, counted) in
    front_ended zeros c.args.n (λ k x. descriptor_of (drop (descriptor_place k) c.args.b.now)) c.nothing.result.descriptors c.loop-i.i _ (omega (arith, all))
    c.loop-i.invariant c.loop-i.auto.i-end c.loop-i-test.false
    ∙ ap (λ (s : System). each c.args.n (λ k x. descriptor_of (drop (descriptor_place k) c.args.b.now)) s.descriptors) c.nothing.ensures
