-- Text as bytes: the lines of the bench are ASCII.
use Rattle.std.specs.Prelude.{ℕ, List, [], ◌∷◌, get_or}
use Prim.Native.Char.{code}
use Prim.Native.String.{String, [] as []ˢ, ◌∷◌ as ◌∷ˢ◌}

abbrev pub ascii : String → List ℕ
ascii []ˢ = []
ascii (c ∷ˢ s) = code c ∷ ascii s

-- the byte of one letter
abbrev pub byte : String → ℕ
byte s = get_or (ascii s) 0 0

abbrev pub line_feed : ℕ
line_feed = byte "\n"
