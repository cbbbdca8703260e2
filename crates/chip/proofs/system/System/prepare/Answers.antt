-- `System::prepare` meets its contract: the needed bytes are sent, one after the other. Assumes nothing.
use Rattle.std.proofs.Common.{◌≡◌, refl, ◌∙◌, ℕ, List, [], ◌∷◌, rules}
use Rattle.std.specs.Prelude.{fold}
use Rattle.std.proofs.iter.runs.Made.{chains}
use Rattle.registers.specs.Unit.{needed}
use Rattle.chip.specs.Prepare.{send, send_all, prepare}
use Rattle.chip.specs.declared.system.System.{System}
use Rattle.chip.proofs.system.System.prepare.Goals as goal
use Rattle.chip.proofs.system.System.prepare.Goals.{in-Translation, in-Load}

sent : (m : ℕ) (bytes : List ℕ) (s : System) → fold (λ (t : System) i. send i m t) s bytes ≡ send_all bytes m s
sent m [] s = refl
sent m (i ∷ bytes) s = sent m bytes (send i m s)

pub returns : goal.returns
unfolding prepare
returns c =
    let m = c.args.m.value in
    let s = c.args.self in
    let bytes : c.match-bytes.needed.now ≡ needed c.args.bytes = elim c.match-bytes.branch [
      | in-Translation w ↦ search rules
      | in-Load w ↦ search rules
    ] in
    let ran : c.fold.result ≡ fold (λ (t : System) i. send i m t) s c.match-bytes.needed.now = search (rules, chains) in
    rw bytes at (ran ∙ sent m c.match-bytes.needed.now s) ∙ search rules
