-- What is written of the first n of a list.
--     of_first       the pieces of the first n elements
-- Assumes nothing.
use Rattle.std.proofs.Common.{◌≡◌, ℕ, ◌≤◌, List, length, get_or, take, refl, arith, length-take}
use Rattle.std.proofs.lemmas.List.{get_or-take}
use Rattle.pieces.specs.Pieces.{pieces}
use Rattle.pieces.proofs.Parts.{pieces_alike}

pub of_first : {A : Type 0} (d : A) (f : A → List ℕ) (n : ℕ) (xs : List A) → n ≤ length xs
    → pieces (length (take n xs)) (λ i. f (get_or (take n xs) i d)) ≡ pieces n (λ i. f (get_or xs i d))
of_first d f n xs h =
    let size : length (take n xs) ≡ n = simp length-take (omega arith) in
    rw size (pieces_alike n (λ i. f (get_or (take n xs) i d)) (λ i. f (get_or xs i d)) (λ i l. rw (get_or-take n xs i d l) refl))
