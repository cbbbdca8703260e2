-- `write` meets its contract: one part after the other, from the front. Assumes nothing.
use borrow.Author.Rules.{rules}
use borrow.Author.Tests.{lt-ltb, le-ltb}
use native.Mathlib.Omega.{arith}
use mathlib.Core.List.{List, ◌++◌}
use Prim.Native.Nat.{ℕ, ◌+◌, ◌*◌, ◌-◌, ◌≤◌}
use mathlib.Core.Path.{◌≡◌, refl, sym, ap, ◌∙◌}
use lib.ListN.{length, take, drop, get_or, replicate, length-append, length-drop, length-take, take-append-drop}
use lib.Seq.{drop_at}
use mathlib.Core.List.{append_assoc}
use Rattle.descriptors.specs.Descriptor.{zeros}
use Rattle.registers.specs.Unit.{no_unit}
use Rattle.block.specs.Layout.{unit_bytes, descriptor_bytes, shared_bytes, form, written}
use Rattle.pieces.specs.Pieces.{pieces}
use Rattle.pieces.proofs.Parts.{Front, further, further_zeros, length_pieces}
use Rattle.block.proofs.Written.{of_first}
use Rattle.block.proofs.write.write.Goals as goal

pub returns-then-b-lt-SIZE : goal.returns-then-b-lt-SIZE
unfolding written
returns-then-b-lt-SIZE c = rw (lt-ltb _ _ c.if-b-lt-SIZE.true)

pub returns : goal.returns
unfolding written form unit_bytes descriptor_bytes
returns c =
    let e = c.args.b.now in
    let s = c.args.system in
    let n = c.present-n.result in
    let few : n ≤ 6 = omega arith in
    let long : 4096 ≤ length e = c.if-b-lt-SIZE.false in
    let p₁ : List ℕ = shared_bytes s.shared in
    let p₂ : List ℕ = pieces n (λ m. unit_bytes (get_or s.units m no_unit)) in
    let p₄ : List ℕ = pieces (32 * n) (λ i. descriptor_bytes (get_or s.descriptors i zeros)) in
    let p₅ : List ℕ = replicate (3968 - 288 * n) 0 in
    let h₀ : Front (take 128 e) 128 e e = (simp length-take (omega arith), sym (take-append-drop 128 e)) in
    let all_units : length s.units ≡ 6 = search rules in
    let all_descriptors : length s.descriptors ≡ 192 = search rules in
    let m_units : length (take n s.units) ≡ n = simp length-take (omega arith) in
    let m_descriptors : length (take (32 * n) s.descriptors) ≡ 32 * n = simp length-take (omega arith) in
    let put₄ = rw (of_first zeros (λ d. descriptor_bytes d) (32 * n) s.descriptors (omega arith), m_descriptors) at c.put_descriptors.ensures in
    let put₂ = rw (of_first no_unit (λ u. unit_bytes u) n s.units (omega arith), m_units) at c.put_units.ensures in
    let h₄ =
    further (take 128 e) p₄ e e c.put_descriptors.new.b 128 (9 * (32 * n)) (128 + 288 * n) h₀
    (length_pieces 9 _ (λ i. refl) (32 * n)) (omega arith) put₄ in
    let h₅ =
    further_zeros (take 128 e ++ p₄) e _ c.put_zeros.new.b (128 + 288 * n) (3968 - 288 * n) 4096 h₄
    long (omega arith) c.put_zeros.ensures in
    let b₂ : List ℕ = take 128 e ++ p₄ ++ p₅ ++ drop 4096 e in
    let put : c.put_shared.new.b ≡ p₁ ++ drop 32 b₂ = rw h₅.1 at c.put_shared.ensures in
    let enough : 128 ≤ length b₂ = simp length-append (omega (arith, h₀.0)) in
    let all : length b₂ ≡ length p₁ + (length b₂ - 32) =
    sym (rw h₅.1 at c.put_shared.auto.b) ∙ ap length put ∙ length-append p₁ _ ∙ rw length-drop in
    let size : length p₁ ≡ 32 = omega (arith, enough, all) in
    let h₁ : Front p₁ 32 b₂ c.put_shared.new.b = (size, put) in
    let h₂ =
    further p₁ p₂ b₂ _ c.put_units.new.b 32 (16 * n) (32 + 16 * n) h₁
    (length_pieces 16 _ (λ m. refl) n) refl put₂ in
    let h₃ =
    further_zeros (p₁ ++ p₂) b₂ _ c.put_zeros-2.new.b (32 + 16 * n) (16 * (6 - n)) 128 h₂
    enough (omega arith) c.put_zeros-2.ensures in
    let past : drop 128 b₂ ≡ p₄ ++ (p₅ ++ drop 4096 e) = rw (append_assoc, append_assoc) (drop_at (take 128 e) _ 128 h₀.0) in
    rw (le-ltb _ _ long) (rw (← c.present-n.ensures) (h₃.1 ∙ rw (past, ← append_assoc, ← append_assoc) refl))
