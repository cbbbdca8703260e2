-- The fields of an answer (docs/LAYOUTS.md): where each begins, how they are put together, and how the C header reads each from its
-- own bits.
use Rattle.std.specs.Prelude.{ℕ, ◌+◌, ◌*◌, ◌/◌, ◌%◌, ◌^◌, ◌≡◌, Bool}
use Rattle.registers.specs.Unit.{flag}
use Rattle.chip.specs.declared.answer.Values.{Values}

-- The first bit of each but the refusal, which begins at bit 0.
abbrev pub KIND : ℕ
KIND = 8

abbrev pub IRQ : ℕ
IRQ = 12

abbrev pub WIN : ℕ
WIN = 13

abbrev pub NEAR : ℕ
NEAR = 14

abbrev pub UNIT : ℕ
UNIT = 16

abbrev pub DESCRIPTOR : ℕ
DESCRIPTOR = 19

abbrev pub BYTE : ℕ
BYTE = 24

abbrev pub ADDRESS : ℕ
ADDRESS = 32

-- each field at its place, and no wider than it
unfoldable pub number_of : Values → (irq : Bool) → ℕ
number_of v irq =
    v.number + v.kind % 2 ^ 4 * 2 ^ KIND + flag irq * 2 ^ IRQ + flag v.win * 2 ^ WIN + flag v.near * 2 ^ NEAR
    + v.unit % 2 ^ 3 * 2 ^ UNIT + v.descriptor % 2 ^ 5 * 2 ^ DESCRIPTOR + v.byte * 2 ^ BYTE + v.address % 2 ^ 24 * 2 ^ ADDRESS

-- the number of a refusal; a call is granted where it is zero
abbrev pub refusal : (answer : ℕ) → ℕ
refusal a = a % 2 ^ KIND

abbrev pub kind : (answer : ℕ) → ℕ
kind a = a / 2 ^ KIND % 2 ^ 4

abbrev pub irq : (answer : ℕ) → ℕ
irq a = a / 2 ^ IRQ % 2

abbrev pub win : (answer : ℕ) → ℕ
win a = a / 2 ^ WIN % 2

abbrev pub near : (answer : ℕ) → ℕ
near a = a / 2 ^ NEAR % 2

abbrev pub unit : (answer : ℕ) → ℕ
unit a = a / 2 ^ UNIT % 2 ^ 3

abbrev pub descriptor : (answer : ℕ) → ℕ
descriptor a = a / 2 ^ DESCRIPTOR % 2 ^ 5

abbrev pub byte : (answer : ℕ) → ℕ
byte a = a / 2 ^ BYTE % 2 ^ 8

abbrev pub address : (answer : ℕ) → ℕ
address a = a / 2 ^ ADDRESS

-- an answer that has these values, and IRQ
pub record Fields (v : Values) (asserted : Bool) (a : ℕ) : Type 0 where
  pub refusal : refusal a ≡ v.number
  pub kind : kind a ≡ v.kind
  pub irq : irq a ≡ flag asserted
  pub win : win a ≡ flag v.win
  pub near : near a ≡ flag v.near
  pub unit : unit a ≡ v.unit
  pub descriptor : descriptor a ≡ v.descriptor
  pub byte : byte a ≡ v.byte
  pub address : address a ≡ v.address
