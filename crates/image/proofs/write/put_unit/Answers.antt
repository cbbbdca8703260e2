-- `put_unit` meets its contract: the accumulator and its marks are copied, and five bytes stored behind them. Assumes nothing.
use Rattle.std.proofs.Common.{◌≡◌, ℕ, List, [], ◌∷◌, ◌++◌, drop, refl, ap, ◌∙◌, arith}
use Rattle.pieces.specs.Pieces.{list_of, high_first}
use Rattle.pieces.proofs.Bytes.{word_bytes}
use Rattle.pieces.proofs.Parts.{replaced, further_stores}
use Rattle.registers.specs.Unit.{ac, marks, held_lsr}
use Rattle.registers.specs.Shared.{gsr_byte}
use Rattle.image.proofs.write.put_unit.Goals as goal

pub returns : goal.returns
returns c =
    let u = c.args.u in
    let h = c.args.shared in
    let e = c.args.b.now in
    let bytes : List ℕ = list_of 9 (ac u) in
    let copied : List ℕ = c.copy_from_slice.new.self ++ drop 9 e in
    let front : copied ≡ bytes ++ drop 9 e =
    ap (λ (p : List ℕ). p ++ drop 9 e) (c.copy_from_slice.ensures.after ∙ c.values.ensures) in
    let word : c.to_be_bytes.result ≡ high_first (marks u) =
    c.to_be_bytes.ensures ∙ rw c.marks.ensures (word_bytes (marks u) (omega arith)).0 in
    let marked = replaced bytes (high_first (marks u)) e copied c.copy_from_slice-2.new.self 9 2 11 (refl, front) refl refl
    (c.copy_from_slice-2.ensures.after ∙ word) in
    let registers : List ℕ = u.dp ∷ h.ivr ∷ gsr_byte h.gsr ∷ held_lsr u ∷ u.rdp ∷ [] in
    rw (c.held_lsr.ensures, c.from.ensures)
    (further_stores (bytes ++ high_first (marks u)) registers e _ 11 16 marked refl (omega arith)).1
