-- What an event leaves in every unit: handbook 3.2.4, "the last event (an operation or fault)", and 3.2.6; and in the GSR, 3.2.3.
use Rattle.std.specs.Prelude.{ℕ, ◌+◌, ◌*◌, ◌/◌, ◌%◌, ◌<◌, ◌≡◌, Bool, false, cond, eqb, Option, Some, None}
use Rattle.registers.specs.Unit.{NO, DT, LD, USA, WV, none}
use Rattle.registers.specs.Shared.{faulted}
use Rattle.chip.specs.System.{present, unit}
use Rattle.chip.specs.Load.{CollidesWith}
use Rattle.descriptors.specs.declared.descriptor.Descriptor.{Descriptor}
use Rattle.registers.specs.declared.unit.Unit.{Unit}
use Rattle.registers.specs.declared.shared.Gsr.{Gsr}
use Rattle.chip.specs.declared.system.System.{System}

pub data Event : Type 0 where
  -- a write violation at descriptor n of unit m
  write_violation : (m n : ℕ) → Event
  -- an undefined segment access, by a cycle that begins as a read or not
  undefined_access : (reads : Bool) → Event
  -- a direct translation, and where the match is
  translation : Option ℕ → Event
  -- a load that is refused, and where each unit's lowest collision is; one that is granted
  load_refused : (lowest : ℕ → Option ℕ) → Event
  load_granted : Event

-- L4-L7, the RDP, and RW
abbrev pub Status : Type 0
Status = ℕ × ℕ × Bool

abbrev pub status : Unit → Status
status u = (u.l, u.rdp, u.rw)

-- The table: what unit k has after the event, which finds `rw` there: the unit concerned, and every other. A fault latches R/W in all
-- units, low for a violation; a load and a direct translation leave it
abbrev pub leaves : Event → (k : ℕ) (rw : Bool) → Status
leaves (write_violation m n) k rw = cond (eqb k m) (WV, n, false) (NO, none, false)
leaves (undefined_access reads) k rw = (USA, none, reads)
leaves (translation (Some i)) k rw = cond (eqb k (i / 32)) (DT, i % 32, rw) (NO, none, rw)
leaves (translation None) k rw = (NO, none, rw)
leaves (load_refused lowest) k rw = concerned (lowest k)
  where
    concerned : Option ℕ → Status
    concerned (Some i) = (LD, i % 32, rw)
    concerned None = (NO, none, rw)
leaves load_granted k rw = (NO, none, rw)

-- F and DF, which all units hold alike: a fault is counted, once; a load and a direct translation are none
abbrev pub counts : Event → Gsr → Gsr
counts (write_violation m n) g = faulted g
counts (undefined_access reads) g = faulted g
counts (translation f) g = g
counts (load_refused lowest) g = g
counts load_granted g = g

-- t is what the event leaves of s
pub record Left (e : Event) (s t : System) : Type 0 where
  pub units : (k : ℕ) → k < present s → status (unit t k) ≡ leaves e k (unit s k).rw
  pub gsr : t.shared.gsr ≡ counts e s.shared.gsr

-- the lowest descriptor of unit k that d, about to be loaded into place i, collides with, or none
abbrev pub Lowest : Descriptor → (i k : ℕ) → System → Option ℕ → Type 0
Lowest d i k s (Some j) =
    (n : ℕ) × (n < 32) × (j ≡ 32 * k + n) × CollidesWith d i j s × ((l : ℕ) → l < n → CollidesWith d i (32 * k + l) s → ⊥)
Lowest d i k s None = (n : ℕ) → n < 32 → CollidesWith d i (32 * k + n) s → ⊥
