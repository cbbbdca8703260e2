-- `put_fields` meets its contract: one part after the other, from the front. Assumes nothing.
use Rattle.std.proofs.Common.{◌≡◌, ℕ, ◌+◌, ◌-◌, ◌*◌, ◌%◌, List, [], ◌∷◌, ◌++◌, length, get_or, take, drop, replicate, refl, ap, ◌∙◌, append_assoc, arith, length-append, length-drop, length-take, get_or-drop, rules}
use Rattle.pieces.specs.Pieces.{list_of, pieces, high_first}
use Rattle.std.proofs.lemmas.List.{get_or-take}
use Rattle.descriptors.specs.Descriptor.{zeros, bytes}
use Rattle.registers.specs.Unit.{ac, marks, held_lsr}
use Rattle.registers.specs.Shared.{gsr_byte}
use Rattle.chip.specs.System.{unit, descriptor}
use Rattle.descriptors.specs.declared.descriptor.Descriptor.{Descriptor}
use Rattle.image.specs.Block.{fields}
use Rattle.pieces.proofs.Parts.{Front, further, further_zeros, length_pieces, pieces_alike}
use Rattle.image.proofs.write.put_fields.Goals as goal

pub returns : goal.returns
unfolding fields
returns c =
    let e = c.args.b.now in
    let s = c.args.system in
    let m = c.args.m in
    let h = s.shared in
    let u = unit s m in
    let p₁ : List ℕ = m ∷ h.board.count % 256 ∷ h.table in
    let rest : List ℕ = u.dp ∷ h.ivr ∷ gsr_byte h.gsr ∷ held_lsr u ∷ u.rdp ∷ [] in
    let p₂ : List ℕ = list_of 9 (ac u) ++ high_first (marks u) ++ rest in
    let p₃ : List ℕ = pieces 32 (λ n. bytes (descriptor s (32 * m + n))) in
    let size : length p₁ ≡ 18 =
    omega (arith, simp (length-append, length-drop) at (ap length c.put_head.ensures), c.put_head.auto.b) in
    let h₁ : Front p₁ 18 e c.put_head.new.b = (size, c.put_head.ensures) in
    let h₂ = further p₁ p₂ e _ c.put_unit.new.b 18 16 34 h₁ refl refl c.put_unit.ensures in
    let all : length s.descriptors ≡ 192 = search rules in
    let ds : List Descriptor = take 32 (drop (32 * m) s.descriptors) in
    let wide : 32 * m + 32 - 32 * m ≡ 32 = omega arith in
    let many : length ds ≡ 32 = simp (length-take, length-drop) (omega arith) in
    let same : pieces 32 (λ n. bytes (get_or ds n zeros)) ≡ p₃ =
    pieces_alike 32 (λ n. bytes (get_or ds n zeros)) (λ n. bytes (descriptor s (32 * m + n)))
    (λ n l. rw (get_or-take 32 (drop (32 * m) s.descriptors) n zeros l, get_or-drop (32 * m) s.descriptors n zeros) refl) in
    let h₃ =
    further (p₁ ++ p₂) p₃ e _ c.put_descriptors.new.b 34 288 322 h₂ (length_pieces 9 _ (λ n. refl) 32) refl
    (rw (wide, many, same) at c.put_descriptors.ensures) in
    let h₄ = further_zeros (p₁ ++ p₂ ++ p₃) e _ c.put_zeros.new.b 322 188 510 h₃ (omega arith) refl c.put_zeros.ensures in
    let one : p₁ ++ p₂ ≡ p₁ ++ list_of 9 (ac u) ++ high_first (marks u) ++ rest = simp append_assoc in
    h₄.1 ∙ ap (λ (l : List ℕ). l ++ p₃ ++ replicate 188 0 ++ drop 510 e) one
