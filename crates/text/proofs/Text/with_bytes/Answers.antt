-- `with_bytes` meets its contract: by the fold. Assumes nothing.
use Rattle.std.proofs.Common.{rules, ◌∙◌, ◌≡◌}
use Rattle.std.specs.Prelude.{fold}
use Rattle.std.proofs.iter.runs.Made.{chains}
use Rattle.text.specs.Text.{pushed}
use Rattle.text.proofs.Texts.{folded}
use Rattle.text.proofs.Text.with_bytes.Goals as goal

pub returns : goal.returns
returns c = let ran : c.fold.result ≡ fold pushed c.args.self c.args.bytes.now = search (rules, chains) in ran ∙ folded c.args.self c.args.bytes.now
