-- Each element of a list with each of those before it.
use Rattle.std.specs.Prelude.{◌≡◌, Bool, not, ◌||◌, List, length, slice_index_or}
use Rattle.std.specs.Borrow.{Bor}
use Rattle.std.specs.Fn.{Shared, FnReturnsAt, FnReturnsAtPair}
use Rattle.masks.specs.Fields.{every}

-- what a closure answers of one element is what a gives, and of two what p gives
abbrev pub Answers : {F T : Type 0} → Shared F (Bor T × Unit {0}) Bool → F → (T → Bool) → Type 0
Answers {F} {T} g f a = (x : T) (b : Bool) → FnReturnsAt g f x b → b ≡ a x

abbrev pub AnswersOfTwo : {F T : Type 0} → Shared F (Bor T × (Bor T × Unit {0})) Bool → F → (T → T → Bool) → Type 0
AnswersOfTwo {F} {T} g f p = (x y : T) (b : Bool) → FnReturnsAtPair g f x y b → b ≡ p x y

-- p holds of each element of which a holds with each of those before it
abbrev pub each_with_those_before : {T : Type 0} → (d : T) (a : T → Bool) (p : T → T → Bool) → List T → Bool
each_with_those_before d a p l =
    every (length l) (λ i. every i (λ k. not (a (slice_index_or l i d)) || p (slice_index_or l i d) (slice_index_or l k d)))
