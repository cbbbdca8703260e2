-- `put_shared` meets its contract: sixteen bytes, then the table. Assumes nothing.
use borrow.Author.Rules.{rules}
use native.Mathlib.Omega.{arith}
use Prim.Native.Nat.{ℕ, ◌%◌}
use mathlib.Core.Path.{◌≡◌, refl, ◌∙◌}
use mathlib.Core.List.{List, ◌∷◌, ◌++◌}
use lib.ListN.{length, drop, set, replicate}
use Rattle.registers.specs.Shared.{gsr_byte}
use Rattle.registers.specs.declared.shared.Shared.{Shared}
use Rattle.block.specs.Layout.{shared_bytes}
use Rattle.pieces.proofs.Bytes.{zeroed_front}
use Rattle.pieces.proofs.Parts.{replaced}
use Rattle.block.proofs.write.put_shared.Goals as goal

-- what stands in the slice before the table is written
abbrev stored : List ℕ → Shared → (gsr : ℕ) → List ℕ
stored b h gsr = set (set (set b 0 (h.board.count % 256)) 1 gsr) 2 h.ivr

pub returns : goal.returns
unfolding shared_bytes
returns c =
    let h = c.args.shared in
    let e = c.args.b.now in
    let b : List ℕ = stored c.put_zeros.new.b h c.from.result in
    let front : List ℕ = h.board.count % 256 ∷ gsr_byte h.gsr ∷ h.ivr ∷ replicate 13 0 in
    let written : b ≡ front ++ drop 16 e = rw (c.put_zeros.ensures ∙ zeroed_front 16 e (omega arith), c.from.ensures) in
    let size : length h.table ≡ 16 = search rules in
    (replaced front h.table e b c.copy_from_slice.new.self 16 16 32 (refl, written) size refl c.copy_from_slice.ensures.after).1
