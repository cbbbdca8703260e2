-- `sum` meets its contract: word after word. Assumes nothing.
use Rattle.std.proofs.Common.{◌≡◌, ℕ, zero, suc, ◌+◌, ◌*◌, ◌/◌, ◌%◌, ◌^◌, List, [], ◌∷◌, length, take, drop, fold, sym, refl, ap, ◌∙◌, arith, rules, get_or-drop, length-take, take-append-drop}
use Rattle.std.specs.Simd.{first_chunks}
use Rattle.std.specs.Slice.Iter.{chunks_exact_steps}
use Rattle.std.proofs.lemmas.Fn.{fold_over}
use Rattle.std.proofs.lemmas.List.{get_or-take}
use Rattle.std.proofs.lemmas.List.Sums.{fold-append}
use Rattle.pieces.specs.Pieces.{high_first_at}
use Rattle.image.specs.Block.{words}
use Rattle.image.proofs.Chunks.{chunks_more, chunks_yield}
use Rattle.image.proofs.Words.{words_front}
use Rattle.image.proofs.block.sum.Goals as goal

-- a total, and a word added to it
abbrev add : (total : ℕ) (word : List ℕ) → ℕ
add total word = (total + high_first_at word 0) % 2 ^ 16

added : (n : ℕ) (b : List ℕ) → fold add 0 (first_chunks 2 n b) ≡ words n b % 2 ^ 16
unfolding words
added zero b = refl
added (suc n) b =
    let at = 2 * n in
    let first : at + 0 ≡ at = omega arith in
    rw (
      chunks_more 2 n b,
      fold-append add 0 (first_chunks 2 n b),
      added n b,
      get_or-take 2 (drop at b) 0 0 (omega arith),
      get_or-take 2 (drop at b) 1 0 (omega arith),
      get_or-drop,
      get_or-drop,
      first,
    )
    (omega arith)

pub returns : goal.returns
returns c =
    let n = c.args.n in
    let b = c.args.b.now in
    let front = take (2 * n) b in
    let size : length front ≡ 2 * n = simp length-take (omega arith) in
    let turns : length front / 2 ≡ n = omega arith in
    fold_over (chunks_exact_steps {A = ℕ}) (λ x. x.now) _ (λ ys total. total ≡ fold add 0 ys) _
    (λ ys a x r f j k. let added : (r ≡ add a x.now) × (f ≡ _) = search rules in (added.0 ∙ rw j (sym (fold-append add 0 ys (x.now ∷ []))), added.1))
    c.chunks_exact.result _ 0 c.fold.result
    (chunks_yield 2 (omega arith) {s = c.chunks_exact.result} front c.chunks_exact.ensures.rest c.chunks_exact.ensures.size).runs refl c.fold.ensures.ran
    ∙ rw turns (added n front)
    ∙ ap (λ sum. sum % 2 ^ 16) (sym (words_front n front (drop (2 * n) b) (omega arith)) ∙ rw (take-append-drop (2 * n) b) refl)
