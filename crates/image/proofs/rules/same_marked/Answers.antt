-- `same_marked` meets its contract: byte after byte. Assumes nothing.
use Rattle.std.proofs.Common.{zip, refl, ◌∙◌, arith, rules, tests}
use Rattle.std.proofs.lemmas.Iterator.{YieldsList-from_slice, YieldsList-from_zip}
use Rattle.std.proofs.lemmas.Iterator.Search.{all_from_yields_List}
use Rattle.std.proofs.lemmas.Slice.Zip.{length-zip, get_or-zip}
use Rattle.registers.specs.Unit.{local}
use Rattle.registers.specs.declared.unit.Byte.{Byte}
use Rattle.image.specs.Rules.{same_marked}
use Rattle.image.proofs.Listed.{all_is}
use Rattle.image.proofs.Marks.{rule}
use Rattle.image.proofs.rules.same_marked.Goals as goal

pub returns : goal.returns
unfolding same_marked
returns c =
    let u = c.args.u.accumulator in
    let v = c.args.v.accumulator in
    let none : Byte × Byte = (local 0, local 0) in
    all_from_yields_List (λ p. rule p.0 p.1) c.all.new.self _ c.all.result c.all.ensures.ran
    (YieldsList-from_zip (YieldsList-from_slice u cc) (YieldsList-from_slice v cc)) (λ x b q k. search (rules, tests))
    ∙ all_is none (λ p. rule p.0 p.1) (zip u v) 9 _ (rw (length-zip u v) (omega arith))
    (λ k l. rw (get_or-zip u v k none (omega arith) (omega arith)) refl)
