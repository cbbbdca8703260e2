-- `put_unit` meets its contract: the accumulator and its marks are copied, and five bytes stored behind them. Assumes nothing.
use Rattle.std.proofs.Common.{◌≡◌, ℕ, List, [], ◌∷◌, ◌++◌, drop, refl, ap, ◌∙◌, arith}
use Rattle.pieces.specs.Pieces.{list_of, low_first}
use Rattle.pieces.proofs.Parts.{replaced, further_stores}
use Rattle.registers.specs.Unit.{ac, marks, held_lsr}
use Rattle.block.specs.Layout.{unit_bytes}
use Rattle.pieces.proofs.Bytes.{word_bytes}
use Rattle.block.proofs.write.put_unit.Goals as goal

pub returns : goal.returns
unfolding unit_bytes
returns c =
    let u = c.args.u in
    let e = c.args.b.now in
    let bytes : List ℕ = list_of 9 (ac u) in
    let copied : List ℕ = c.copy_from_slice.new.self ++ drop 9 e in
    let front : copied ≡ bytes ++ drop 9 e =
    ap (λ (p : List ℕ). p ++ drop 9 e) (c.copy_from_slice.ensures.after ∙ c.values.ensures) in
    let word : c.to_le_bytes.result ≡ low_first (marks u) =
    c.to_le_bytes.ensures ∙ rw c.marks.ensures (word_bytes (marks u) (omega arith)).1 in
    let marked = replaced bytes (low_first (marks u)) e copied c.copy_from_slice-2.new.self 9 2 11 (refl, front) refl refl
    (c.copy_from_slice-2.ensures.after ∙ word) in
    let registers : List ℕ = u.dp ∷ held_lsr u ∷ u.rdp ∷ 0 ∷ 0 ∷ [] in
    rw c.held_lsr.ensures (further_stores (bytes ++ low_first (marks u)) registers e _ 11 16 marked refl (omega arith)).1
