-- "Read back only what could satisfy 01": document 02, P2, rule by rule.
use Rattle.std.specs.Prelude.{ℕ, ◌+◌, ◌*◌, ◌/◌, ◌%◌, ◌^◌, Bool, not, ◌&&◌, ◌||◌, List, ◌==◌, nat_eq, slice_index}
use Rattle.masks.specs.Fields.{bit, every}
use Rattle.descriptors.specs.Status.{E, IP}
use Rattle.descriptors.specs.Descriptor.{enabled, collides}
use Rattle.registers.specs.Unit.{byte, ac}
use Rattle.chip.specs.System.{present, unit, descriptor}
use Rattle.registers.specs.declared.unit.Unit.{Unit}
use Rattle.chip.specs.declared.system.System.{System}
use Rattle.image.specs.Block.{number, count, marks, dp, ivr, gsr, lsr, rdp, ssr, reserved}

-- ---- A block's own rules

-- n bits are zero, the first of them `from`
abbrev pub clear : (from n : ℕ) (x : ℕ) → Bool
clear from n x = x / 2 ^ from % 2 ^ n == 0

-- "reserved bits zero": marks above the ninth, DP above five bits, GSR 1 to 5, LSR 0 to 2, RDP 5 and 6
abbrev pub registers_clear : (block : List ℕ) → Bool
registers_clear b = clear 9 7 (marks b) && clear 5 3 (dp b) && clear 1 5 (gsr b) && clear 0 3 (lsr b) && clear 5 2 (rdp b)

-- "RDP's number zero under NVR"
abbrev pub nvr_alone : (rdp : ℕ) → Bool
nvr_alone rdp = not (bit rdp 7) || rdp % 2 ^ 5 == 0

-- SSR 5 and 6 zero; "IP only with E"
abbrev pub allowed : (ssr : ℕ) → Bool
allowed ssr = clear 5 2 ssr && (not (bit ssr IP) || bit ssr E)

-- all but the count's: "unit number its place", the reserved bits, RDP, each status, the reserved bytes
unfoldable pub own : (m : ℕ) (block : List ℕ) → Bool
own m b =
    (number b == m) && registers_clear b && nvr_alone (rdp b)
    && every 32 (λ n. allowed (ssr n b)) && every 188 (λ i. nat_eq (reserved b i) 0)

-- "count the number of blocks"
abbrev pub counted : (blocks : ℕ) (block : List ℕ) → Bool
counted n b = count b == n

-- ---- The rules across blocks

-- "equal table, GSR and IVR", of two blocks
unfoldable pub same_shared : (block other : List ℕ) → Bool
same_shared a b = every 16 (λ i. nat_eq (slice_index a (2 + i)) (slice_index b (2 + i))) && gsr a == gsr b && ivr a == ivr b

-- "bytes marked in two units equal"
unfoldable pub same_marked : (u v : Unit) → Bool
same_marked u v = every 9 (λ i. not ((byte u i).global && (byte v i).global) || ac u i == ac v i)

unfoldable pub agreed : System → Bool
agreed s = every (present s) (λ m. every m (λ k. same_marked (unit s m) (unit s k)))

-- "no clash": no two enabled descriptors, in the same unit or in two
unfoldable pub apart : System → Bool
apart s = every (32 * present s) (λ i. every i (λ k. not (enabled (descriptor s i) && collides (descriptor s i) (descriptor s k))))

-- those of them that a system in its written form can break
abbrev pub sound : System → Bool
sound s = agreed s && apart s
