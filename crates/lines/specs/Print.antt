-- What an answer prints as: document 01, "The bench program".
use Rattle.std.specs.Prelude.{ℕ, Bool, not, cond, List, ◌∷◌, ◌++◌, eqb}
use Rattle.text.specs.Ascii.{ascii, byte}
use Rattle.text.specs.Digits.{hex_digit, hex_byte, hex_address, decimal_number}
use Rattle.chip.specs.Answer.{byte_read, mapped, violating, undefined}
use Rattle.chip.specs.declared.answer.Values.{Values}

-- WIN and IRQ
abbrev pub flag : Bool → ℕ
flag b = cond b (byte "1") (byte "0")

-- IRQ ends the line of any answer but a refusal and U
abbrev pub ended : (irq : Bool) → List ℕ
ended irq = ascii " " ++ flag irq ∷ ascii "\n"

-- unit and descriptor
abbrev pub named : (unit descriptor : ℕ) → List ℕ
named u d = hex_digit u ∷ ascii " " ++ hex_byte d

-- P and V end alike: unit, descriptor, WIN, IRQ
abbrev pub placed : (unit descriptor : ℕ) (win irq : Bool) → List ℕ
placed u d win irq = named u d ++ ascii " " ++ flag win ∷ ended irq

-- document 02, P4: the reason, "only after U's IRQ, as unit and descriptor, or `- --`"
abbrev pub reason : Values → List ℕ
reason v = cond v.near (named v.unit v.descriptor) (ascii "- --")

-- "P: physical address, unit, descriptor (hex), WIN, IRQ. V: unit, descriptor, WIN, IRQ. U, ok: IRQ. =: byte, IRQ. no: refusal."
unfoldable pub printed : Values → (irq : Bool) → List ℕ
printed v irq =
    cond (not (eqb v.number 0)) (ascii "no " ++ decimal_number v.number ++ ascii "\n")
    (cond (eqb v.kind mapped) (ascii "P " ++ hex_address v.address ++ ascii " " ++ placed v.unit v.descriptor v.win irq)
    (cond (eqb v.kind violating) (ascii "V " ++ placed v.unit v.descriptor v.win irq)
    (cond (eqb v.kind undefined) (ascii "U " ++ flag irq ∷ ascii " " ++ reason v ++ ascii "\n")
    (cond (eqb v.kind byte_read) (ascii "= " ++ hex_byte v.byte ++ ended irq)
    (ascii "ok" ++ ended irq)))))

-- a line that means nothing
abbrev pub bad : List ℕ
bad = ascii "bad\n"
