-- A descriptor, what it matches and where it maps a page: handbook 3.1 and 4.5.3.
use Rattle.std.specs.Prelude.{ℕ, ◌<◌, ◌^◌, Bool, true, false, ◌&&◌, cond, List, [], ◌∷◌, ◌++◌, ◌≡◌}
use Rattle.masks.specs.Fields.{bit, agree, clash, gate}
use Rattle.pieces.specs.Pieces.{high_first}
use Rattle.descriptors.specs.Status.{E, WP, IP, raise, disabled}
use Rattle.descriptors.specs.declared.descriptor.Descriptor.{Descriptor}
use Rattle.descriptors.specs.declared.descriptor.Match.{Match}
use Rattle.descriptors.specs.declared.descriptor.Match.TheVariants.{Yes, Disabled, RangeDiffers, SpaceDiffers, BothDiffer}

-- 3.1.6: E, when set, enables the segment to participate in the matching process
abbrev pub enabled : Descriptor → Bool
enabled d = bit d.ssr E

-- 3.1.6: WP, when set, protects the segment from being written
abbrev pub protected : Descriptor → Bool
protected d = bit d.ssr WP

-- 3.1.6: IP, interrupt pending
abbrev pub pending : Descriptor → Bool
pending d = bit d.ssr IP

-- 4.5.3.1: a range match: in each bit position in the LAM which is set, the page matches the LBA
abbrev pub range_match : Descriptor → (page : ℕ) → Bool
range_match d page = agree 16 d.lam page d.lba

-- 4.5.3.1: a space match: in each bit position in the ASM which is set, the number matches the ASN
abbrev pub space_match : Descriptor → (number : ℕ) → Bool
space_match d number = agree 8 d.asm number d.asn

-- 4.5.3.2: an enabled segment has an address match if there is a range match and a space match
unfoldable pub matches : Descriptor → (page number : ℕ) → Bool
matches d page number = enabled d && range_match d page && space_match d number

-- document 02, P4: "the match answer says why: disabled, range differs, space differs, or both differ". Disabled decides before the
-- other three (decision 120)
abbrev pub compared : (range space : Bool) → Match
compared true true = Yes
compared true false = SpaceDiffers
compared false true = RangeDiffers
compared false false = BothDiffer

unfoldable pub match_answer : Descriptor → (page number : ℕ) → Match
match_answer d page number = cond (enabled d) (compared (range_match d page) (space_match d number)) Disabled

-- yes; and "whose space alone differed"
abbrev pub is_yes : Match → Bool
is_yes Yes = true
is_yes Disabled = false
is_yes RangeDiffers = false
is_yes SpaceDiffers = false
is_yes BothDiffer = false

abbrev pub space_alone : Match → Bool
space_alone SpaceDiffers = true
space_alone Yes = false
space_alone Disabled = false
space_alone RangeDiffers = false
space_alone BothDiffer = false

-- 4.5.3.2: the page is passed through in those bit positions in the LAM which are clear; in the
-- other bit positions the PBA is gated out
abbrev pub physical_page : Descriptor → (page : ℕ) → ℕ
physical_page d page = gate 16 d.lam page d.pba

-- the same segment with another status
abbrev pub with_ssr : Descriptor → ℕ → Descriptor
with_ssr d ssr = record { lba = d.lba; lam = d.lam; pba = d.pba; asn = d.asn; ssr = ssr; asm = d.asm }

-- the same segment with E set
unfoldable pub enable : Descriptor → Descriptor
enable d = with_ssr d (raise E d.ssr)

-- 4.6.3.2: a collision, both are programmed to translate the same logical address: some page and
-- some number exist that both match, E taken as set
unfoldable pub Clash : Descriptor → Descriptor → Type 0
Clash d e =
    (page : ℕ) × (number : ℕ) × (page < 2 ^ 16) × (number < 2 ^ 8)
    × (matches (enable d) page number ≡ true) × (matches (enable e) page number ≡ true)

-- whether there is a `Clash`, computed: the ranges clash and the spaces clash
unfoldable pub clashes : Descriptor → Descriptor → Bool
clashes d e = clash 16 d.lam d.lba e.lam e.lba && clash 8 d.asm d.asn e.asm e.asn

-- 4.6.3.2: an enabled descriptor that d, about to be loaded, collides with
abbrev pub collides : Descriptor → Descriptor → Bool
collides d e = enabled e && clashes d e

-- 4.6.3.2: the descriptor is disabled so that it cannot cause a collision
abbrev pub disable : Descriptor → Descriptor
disable d = with_ssr d (disabled d.ssr)

-- Table 3-1: the nine bytes, in accumulator order
abbrev pub bytes : Descriptor → List ℕ
bytes d = high_first d.lba ++ high_first d.lam ++ high_first d.pba ++ d.asn ∷ d.ssr ∷ d.asm ∷ []

-- every byte zero
abbrev pub zeros : Descriptor
zeros = record { lba = 0; lam = 0; pba = 0; asn = 0; ssr = 0; asm = 0 }
