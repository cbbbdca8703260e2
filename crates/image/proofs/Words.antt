-- The words of a block that is written from the front.
--     words_front                    the first words are those of the bytes in front
--     length_fields, length_block    how many bytes stand before the check, and with it
-- Assumes nothing.
use Rattle.std.proofs.Common.{◌≡◌, ℕ, zero, suc, ◌+◌, ◌*◌, ◌≤◌, List, ◌++◌, length, refl, arith, length-append}
use lib.ListN.{length-replicate, get_or-append}
use Rattle.pieces.proofs.Parts.{length_pieces}
use Rattle.descriptors.specs.Descriptor.{bytes}
use Rattle.chip.specs.System.{descriptor}
use Rattle.chip.specs.declared.system.System.{System}
use Rattle.image.specs.Block.{words, fields, block}

pub words_front : (n : ℕ) (p r : List ℕ) → 2 * n ≤ length p → words n (p ++ r) ≡ words n p
unfolding words
words_front zero p r h = refl
words_front (suc n) p r h =
    rw (words_front n p r (omega arith), get_or-append p r 0 (2 * n) (omega arith), get_or-append p r 0 (2 * n + 1) (omega arith))

pub length_fields : (s : System) (m : ℕ) → length s.shared.table ≡ 16 → length (fields s m) ≡ 510
unfolding fields
length_fields s m h =
    simp (length-append, length_pieces 9 (λ n. bytes (descriptor s (32 * m + n))) (λ n. refl) 32, length-replicate) (omega arith)

pub length_block : (s : System) (m : ℕ) → length s.shared.table ≡ 16 → length (block s m) ≡ 512
unfolding block
length_block s m h = simp length-append (omega (arith, length_fields s m h))
