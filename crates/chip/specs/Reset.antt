-- Start and reset: handbook 4.5.1.
use Rattle.std.specs.Prelude.{ℕ, ◌*◌, Bool, false, replicate, Option, Some, None}
use Rattle.descriptors.specs.Descriptor.{zeros}
use Rattle.registers.specs.Unit.{NO, none, local, report}
use Rattle.chip.specs.System.{with_descriptor, with_shared, in_all}
use Rattle.chip.specs.Answer.{absent}
use Rattle.descriptors.specs.declared.descriptor.Descriptor.{Descriptor}
use Rattle.registers.specs.declared.unit.Unit.{Unit}
use Rattle.registers.specs.Shared.{board}
use Rattle.registers.specs.declared.shared.Board.{Board}
use Rattle.registers.specs.declared.shared.Shared.{Shared}
use Rattle.chip.specs.declared.system.System.{System}

-- accumulator, marks, DP and LSR zero
abbrev pub blank : Unit
blank = record { accumulator = replicate 9 (local 0); dp = 0; rdp = 0; l = 0; rw = false }

-- the table and the GSR zero, the IVR $0F
abbrev pub uninitialized : Board → Shared
uninitialized b = record { table = replicate 16 0; gsr = record { f = false; df = false; ie = false }; ivr = 0x0F; board = b }

-- before the first start: no unit, every register zero
abbrev pub nothing : System
nothing = record {
  descriptors = replicate 192 zeros;
  units = replicate 6 blank;
  shared = record { table = replicate 16 0; gsr = record { f = false; df = false; ie = false }; ivr = 0; board = board 0 };
}

-- every descriptor is disabled (and zero); in each unit there is the RDP is $80
unfoldable pub unselected : Board → System
unselected b = in_all (report NO none) (with_shared nothing (uninitialized b))

-- descriptor 0 of the selected MMU: LAM and ASN $00, ASM $FF, the enable bit set
abbrev pub identity : Descriptor
identity = record { lba = 0; lam = 0; pba = 0; asn = 0; ssr = 0x01; asm = 0xFF }

-- the system after reset
unfoldable pub fresh : Board → Option ℕ → System
fresh b None = unselected b
fresh b (Some m) = with_descriptor (unselected b) (32 * m) identity

-- 2, at start and reset: "none" is allowed
abbrev pub unselectable : Option ℕ → (count : ℕ) → Bool
unselectable None count = false
unselectable (Some m) count = absent m count
