-- What a line of the bench means: document 01, "The bench program"; M of 02, P1. A line is its bytes without the line feed.
use Rattle.std.specs.Prelude.{ℕ, ◌+◌, ◌*◌, Bool, true, false, ◌&&◌, ◌||◌, cond, List, [], ◌∷◌, eqb, get_or, Option, Some, None}
use Rattle.text.specs.Ascii.{ascii, byte}
use Rattle.text.specs.Digits.{decimal, hex, digit, byte_of}
use Rattle.chip.specs.declared.call.Call.TheVariants.{Start, Access, Register, Acknowledge}
use Rattle.chip.specs.declared.access.Cycle.{Cycle}
use Rattle.chip.specs.declared.access.Cycle.TheVariants as cycle
use Rattle.chip.specs.declared.register.Operation.TheVariants as operation
use Rattle.chip.specs.declared.call.Call.{Call}

-- A form has a letter for each byte of its line: n for a decimal digit, m for one or `-`, h for a hex digit, r for `R`, `W` or
-- `M`; any other byte stands for itself
abbrev pub fits_at : (form c : ℕ) → Bool
fits_at form c =
    cond (eqb form (byte "n")) (decimal c)
    (cond (eqb form (byte "m")) (decimal c || eqb c (byte "-"))
    (cond (eqb form (byte "h")) (hex c)
    (cond (eqb form (byte "r")) (eqb c (byte "R") || eqb c (byte "W") || eqb c (byte "M"))
    (eqb c form))))

-- a line has a form if it is as long and each byte fits
unfoldable pub fits : (form line : List ℕ) → Bool
fits [] [] = true
fits [] (c ∷ line) = false
fits (f ∷ form) [] = false
fits (f ∷ form) (c ∷ line) = fits_at f c && fits form line

-- "S n m", "W m aa vv", "G m aa", "T f r aaaaaa", "A m"
abbrev pub start_form : List ℕ
start_form = ascii "S n m"

abbrev pub write_form : List ℕ
write_form = ascii "W n hh hh"

abbrev pub read_form : List ℕ
read_form = ascii "G n hh"

abbrev pub access_form : List ℕ
access_form = ascii "T h r hhhhhh"

abbrev pub acknowledge_form : List ℕ
acknowledge_form = ascii "A n"

-- the value of the digit at place i, of two hex digits from there on, and of six
abbrev pub digit_at : (line : List ℕ) (i : ℕ) → ℕ
digit_at line i = digit (get_or line i 0)

abbrev pub byte_at : (line : List ℕ) (i : ℕ) → ℕ
byte_at line i = byte_of (get_or line i 0) (get_or line (i + 1) 0)

abbrev pub address_at : (line : List ℕ) (i : ℕ) → ℕ
address_at line i = 65536 * byte_at line i + 256 * byte_at line (i + 2) + byte_at line (i + 4)

abbrev pub unit : (c : ℕ) → Option ℕ
unit c = cond (eqb c (byte "-")) None (Some (digit c))

abbrev pub direction : (c : ℕ) → Cycle
direction c = cond (eqb c (byte "R")) cycle.Read (cond (eqb c (byte "M")) cycle.ReadModifyWrite cycle.Write)

-- what a line of each form asks for
abbrev pub start_of : (line : List ℕ) → Call
start_of l = Start (digit_at l 2) (unit (get_or l 4 0))

abbrev pub write_of : (line : List ℕ) → Call
write_of l = Register (digit_at l 2) (byte_at l 4) (operation.Write (byte_at l 7))

abbrev pub read_of : (line : List ℕ) → Call
read_of l = Register (digit_at l 2) (byte_at l 4) operation.Read

abbrev pub access_of : (line : List ℕ) → Call
access_of l = Access (digit_at l 2) (direction (get_or l 4 0)) (address_at l 6)

abbrev pub acknowledge_of : (line : List ℕ) → Call
acknowledge_of l = Acknowledge (digit_at l 2)

-- a line that has none of the forms asks for nothing: it is bad
unfoldable pub meaning : (line : List ℕ) → Option Call
meaning l =
    cond (fits start_form l) (Some (start_of l))
    (cond (fits write_form l) (Some (write_of l))
    (cond (fits read_form l) (Some (read_of l))
    (cond (fits access_form l) (Some (access_of l))
    (cond (fits acknowledge_form l) (Some (acknowledge_of l))
    None))))
