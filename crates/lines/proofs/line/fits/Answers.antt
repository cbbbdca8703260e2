-- `fits` meets its contract: it is as long, and each byte fits. Assumes nothing.
use Rattle.std.proofs.Common.{ℕ, ◌∙◌, rules}
use borrow.Author.Tests.{tests}
use Rattle.std.proofs.lemmas.Iterator.{YieldsList-from_slice, YieldsList-from_zip}
use Rattle.std.proofs.lemmas.Iterator.Consumers.{YieldsList-at}
use Rattle.std.proofs.lemmas.Iterator.Search.{all_from_yields_List}
use Rattle.lines.specs.Line.{fits_at}
use Rattle.lines.proofs.Forms.{fits_all}
use Rattle.lines.proofs.line.fits.Goals as goal

pub returns-then-form-line : goal.returns-then-form-line
returns-then-form-line c =
    let form = c.args.form.now in
    let line = c.args.line.now in
    all_from_yields_List (λ (p : ℕ × ℕ). fits_at p.0 p.1) c.all.new.self _ c.all.result c.all.ensures.ran
    (YieldsList-from_zip (YieldsList-at c.zip.ensures.first (YieldsList-from_slice form c.iter.ensures.rest)) (YieldsList-at c.zip.ensures.second (YieldsList-from_slice line c.iter-then-form-line.ensures.rest)))
    (λ x b q k. search (rules, tests))
    ∙ fits_all form line c.if-form-line.true
