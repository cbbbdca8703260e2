-- Digits as bytes, and the numbers that they write.
use Rattle.std.specs.Prelude.{ℕ, ◌+◌, ◌*◌, ◌-◌, ◌/◌, ◌%◌, ◌^◌, Bool, ◌&&◌, ◌||◌, cond, List, [], ◌∷◌, ltb, leb, get_or}
use Rattle.text.specs.Ascii.{ascii, byte}

-- a decimal digit, and a hex digit in capitals
abbrev pub decimal : (c : ℕ) → Bool
decimal c = leb (byte "0") c && leb c (byte "9")

abbrev pub hex : (c : ℕ) → Bool
hex c = decimal c || (leb (byte "A") c && leb c (byte "F"))

-- the value of a digit, and of two hex digits
abbrev pub digit : (c : ℕ) → ℕ
digit c = cond (ltb c (byte "A")) (c - byte "0") (c - byte "A" + 10)

abbrev pub byte_of : (high low : ℕ) → ℕ
byte_of high low = 16 * digit high + digit low

-- the hex digit of a number's last four bits, in capitals; a byte in two digits, an address in six
abbrev pub hex_digit : (n : ℕ) → ℕ
hex_digit n = get_or (ascii "0123456789ABCDEF") (n % 16) 0

abbrev pub hex_byte : (b : ℕ) → List ℕ
hex_byte b = hex_digit (b / 16) ∷ hex_digit b ∷ []

abbrev pub hex_address : (a : ℕ) → List ℕ
hex_address a =
    hex_digit (a / 2 ^ 20) ∷ hex_digit (a / 2 ^ 16) ∷ hex_digit (a / 2 ^ 12) ∷ hex_digit (a / 2 ^ 8) ∷ hex_digit (a / 2 ^ 4) ∷ hex_digit a ∷ []

-- a number below 100 in decimal, without a leading zero; of any other its last two digits
abbrev pub decimal_number : (n : ℕ) → List ℕ
decimal_number n = cond (ltb n 10) (hex_digit (n % 10) ∷ []) (hex_digit (n / 10 % 10) ∷ hex_digit (n % 10) ∷ [])
