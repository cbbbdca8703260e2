-- `put_descriptor` meets its contract: three words are copied, and three bytes stored behind them. Assumes nothing.
use Rattle.std.proofs.Common.{List, ℕ, [], ◌∷◌, ◌++◌, drop, refl, ap, ◌∙◌, arith}
use Rattle.pieces.specs.Pieces.{low_first}
use Rattle.pieces.proofs.Parts.{replaced, further_stores}
use Rattle.block.specs.Layout.{descriptor_bytes}
use Rattle.pieces.proofs.Bytes.{word_bytes}
use Rattle.block.proofs.write.put_descriptor.Goals as goal

pub returns : goal.returns
unfolding descriptor_bytes
returns c =
    let d = c.args.d in
    let e = c.args.b.now in
    let lba = c.copy_from_slice.ensures.after ∙ c.to_le_bytes.ensures ∙ (word_bytes d.lba (omega arith)).1 in
    let lam = c.copy_from_slice-2.ensures.after ∙ c.to_le_bytes-2.ensures ∙ (word_bytes d.lam (omega arith)).1 in
    let pba = c.copy_from_slice-3.ensures.after ∙ c.to_le_bytes-3.ensures ∙ (word_bytes d.pba (omega arith)).1 in
    let copied : List ℕ = c.copy_from_slice.new.self ++ drop 2 e in
    let h₂ = replaced (low_first d.lba) (low_first d.lam) e copied _ 2 2 4 (refl, ap (λ (p : List ℕ). p ++ drop 2 e) lba) refl refl lam in
    let h₄ = replaced (low_first d.lba ++ low_first d.lam) (low_first d.pba) e _ _ 4 2 6 h₂ refl refl pba in
    (further_stores (low_first d.lba ++ low_first d.lam ++ low_first d.pba) (d.asn ∷ d.ssr ∷ d.asm ∷ []) e _ 6 9 h₄ refl (omega arith)).1
