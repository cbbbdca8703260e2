-- `run` meets its contract: the block's length, then whether the call was refused. Assumes nothing.
use mathlib.Core.Path.{refl, sym, ap, ◌∙◌}
use Rattle.chip.specs.declared.answer.Outcome.{Outcome}
use Rattle.cleftromi.specs.Interface.{answer, after}
use Rattle.cleftromi.proofs.Blocks.{refused_told, others_told}
use Rattle.cleftromi.proofs.run.Goals as goal

pub returns-then-short : goal.returns-then-short
unfolding answer after
returns-then-short c = rw (sym c.short.ensures ∙ c.if-short.true) record { value = refl; state_after = refl }

pub returns-in-Refused : goal.returns-in-Refused
returns-in-Refused c =
    let long = sym c.short.ensures ∙ c.if-short.false in
    let outcome = rw c.read.ensures at c.perform-outcome.ensures in
    let told = refused_told c.args.call c.args.state.now c.in-Refused.refusal long (sym (ap (λ (o : Outcome). o.answer) outcome) ∙ c.in-Refused.is) in
    record { value = c.from.ensures ∙ c.number.ensures ∙ sym told.0; state_after = sym told.1 }

pub returns-in_default : goal.returns-in_default
returns-in_default c =
    let long = sym c.short.ensures ∙ c.if-short.false in
    let outcome = rw c.read.ensures at c.perform-outcome.ensures in
    let told = others_told c.args.call c.args.state.now long (λ r e. c.in_default.not-Refused r (ap (λ (o : Outcome). o.answer) outcome ∙ e)) in
    let told = rw (← outcome) at told in
    record { value = c.finish.ensures.value ∙ sym told.0; state_after = c.finish.ensures.state_after ∙ sym told.1 }
