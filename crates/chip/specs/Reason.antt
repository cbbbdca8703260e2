-- What an answer carries where nothing matches: document 02, P4.
use Rattle.std.specs.Prelude.{ℕ, ◌+◌, ◌*◌, ◌<◌, ◌≡◌, true, false}
use Rattle.descriptors.specs.Descriptor.{enabled, range_match, space_match, matches}
use Rattle.descriptors.specs.declared.descriptor.Descriptor.{Descriptor}
use Rattle.chip.specs.System.{present, descriptor}
use Rattle.chip.specs.Answer.{byte_read, undefined}
use Rattle.chip.specs.declared.system.System.{System}
use Rattle.chip.specs.declared.access.Cycle.{Cycle}
use Rattle.chip.specs.declared.register.Operation.TheVariants.{Read}
use Rattle.chip.specs.declared.call.Call.{Call}
use Rattle.chip.specs.declared.call.Call.TheVariants.{Access, Register}

-- no descriptor of any unit matches
abbrev pub Unmatched : (page number : ℕ) → System → Type 0
Unmatched page number s = (i : ℕ) → i < 32 * present s → matches (descriptor s i) page number ≡ false

-- "whose space alone differed": E, a range match, and no space match
abbrev pub SpaceAloneDiffers : Descriptor → (page number : ℕ) → Type 0
SpaceAloneDiffers d page number = (enabled d ≡ true) × (range_match d page ≡ true) × (space_match d number ≡ false)

-- "the lowest unit and then descriptor whose space alone differed, if there is one": where near is 1 it is the one of this unit and
-- descriptor; where near is 0 there is none, and both are zero
pub record Carried (page number : ℕ) (s : System) (near unit n : ℕ) : Type 0 where
  pub names_lowest : near ≡ 1 → let i = 32 * unit + n in
      (i < 32 * present s) × SpaceAloneDiffers (descriptor s i) page number × ((k : ℕ) → k < i → SpaceAloneDiffers (descriptor s k) page number → ⊥)
  pub names_none : near ≡ 0 → ((k : ℕ) → k < 32 * present s → SpaceAloneDiffers (descriptor s k) page number → ⊥) × (unit ≡ 0) × (n ≡ 0)

-- "bus access and direct translation pass the reason on": the calls whose answer, of this kind and with this byte, can carry one. A
-- direct translation is a register read of $3D
pub data MayCarry (kind byte : ℕ) : Call → Type 0 where
  by_access : {code address : ℕ} {cycle : Cycle} → kind ≡ undefined → MayCarry kind byte (Access code cycle address)
  by_translation : {unit : ℕ} → kind ≡ byte_read → byte ≡ 0xFF → MayCarry kind byte (Register unit 0x3D Read)
