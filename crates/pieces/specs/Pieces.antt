-- Lists of bytes that are written and read piece by piece.
use Rattle.std.specs.Prelude.{ℕ, zero, suc, ◌+◌, ◌*◌, ◌/◌, ◌%◌, ◌^◌, ◌<◌, min, List, [], ◌∷◌, ◌++◌, length, drop, get_or, replicate}

-- every element is a byte, as `&[u8]` has it
abbrev pub Bytes : List ℕ → Type 0
Bytes b = (i : ℕ) → get_or b i 0 < 2 ^ 8

-- f of each number below n
abbrev pub list_of : {A : Type 0} → (n : ℕ) → (ℕ → A) → List A
list_of zero f = []
list_of (suc n) f = f 0 ∷ list_of n (λ i. f (suc i))

-- n pieces, one after the other
unfoldable pub pieces : {A : Type 0} → (n : ℕ) → (ℕ → List A) → List A
pieces zero f = []
pieces (suc n) f = pieces n f ++ f n

-- the first n bytes, or all where there are fewer, are zero, and the rest stays
abbrev pub zeroed : (n : ℕ) → List ℕ → List ℕ
zeroed n b = let m = min n (length b) in replicate m 0 ++ drop m b

-- a word of two bytes
abbrev pub join : (high low : ℕ) → ℕ
join high low = 256 * high + low

-- the two bytes of a word, the high one first, and the low one first; and the word that stands so at place i
abbrev pub high_first : (word : ℕ) → List ℕ
high_first x = x / 256 ∷ x % 256 ∷ []

abbrev pub high_first_at : List ℕ → (i : ℕ) → ℕ
high_first_at b i = join (get_or b i 0) (get_or b (i + 1) 0)

abbrev pub low_first : (word : ℕ) → List ℕ
low_first x = x % 256 ∷ x / 256 ∷ []

abbrev pub low_first_at : List ℕ → (i : ℕ) → ℕ
low_first_at b i = join (get_or b (i + 1) 0) (get_or b i 0)
