-- `put_block` meets its contract: the check is copied behind the fields, whose words it is made of. Assumes nothing.
use Rattle.std.proofs.Common.{◌≡◌, ℕ, ◌+◌, ◌-◌, ◌%◌, ◌^◌, List, length, drop, refl, ap, ◌∙◌, arith, length-append, length-drop}
use Rattle.pieces.specs.Pieces.{high_first}
use Rattle.image.specs.Block.{words, fields, check, block}
use Rattle.pieces.proofs.Bytes.{word_bytes}
use Rattle.pieces.proofs.Parts.{replaced}
use Rattle.image.proofs.Words.{words_front}
use Rattle.image.proofs.write.put_block.Goals as goal

pub returns : goal.returns
unfolding block
returns c =
    let put = c.put_fields in
    let e = c.args.b.now in
    let f : List ℕ = fields c.args.system c.args.m in
    let size : length f ≡ 510 = omega (arith, simp (length-append, length-drop) at (ap length put.ensures), put.auto.b) in
    let sum : c.sum-check.result ≡ words 255 f % 2 ^ 16 =
    c.sum-check.ensures ∙ rw (put.ensures, words_front 255 f (drop 510 e) (omega arith)) in
    let last : (0 + (2 ^ 16 - c.sum-check.result)) % 2 ^ 16 ≡ check f = omega arith in
    let word = c.to_be_bytes.ensures ∙ (word_bytes _ (omega arith)).0 ∙ ap (λ x. high_first x) last in
    (replaced f (high_first (check f)) e put.new.b c.copy_from_slice.new.self 510 2 512 (size, put.ensures) refl refl
    (c.copy_from_slice.ensures.after ∙ word)).1
