-- `put_head` meets its contract: two stores, then the table. Assumes nothing.
use Rattle.std.proofs.Common.{◌≡◌, ℕ, ◌%◌, List, [], ◌∷◌, length, refl, arith, rules}
use Rattle.pieces.proofs.Parts.{further_stores, replaced}
use Rattle.image.proofs.write.put_head.Goals as goal

pub returns : goal.returns
returns c =
    let h = c.args.shared in
    let e = c.args.b.now in
    let two : List ℕ = c.args.m ∷ h.board.count % 256 ∷ [] in
    let size : length h.table ≡ 16 = search rules in
    (replaced two h.table e _ c.copy_from_slice.new.self 2 16 18
    (further_stores [] two e e 0 2 (refl, refl) refl (omega arith)) size refl c.copy_from_slice.ensures.after).1
