-- The registers of which all units hold the same: handbook 3.2.1, 3.2.3 and 3.2.8; and what the board is.
use Rattle.std.specs.Prelude.{ℕ, ◌+◌, ◌*◌, true, ◌||◌, get_or, set}
use Rattle.masks.specs.Fields.{bit}
use Rattle.registers.specs.Unit.{flag}
use Rattle.registers.specs.declared.shared.Gsr.{Gsr}
use Rattle.registers.specs.declared.shared.Board.{Board}
use Rattle.registers.specs.declared.shared.Shared.{Shared}

-- a board of this many units
abbrev pub board : (count : ℕ) → Board
board count = record { count = count }

-- 3.2.3: the places of F, DF and IE
abbrev pub F : ℕ
F = 7

abbrev pub DF : ℕ
DF = 6

abbrev pub IE : ℕ
IE = 0

-- 4.5.3.3: F is set in the GSR, and DF is set if F was previously set
abbrev pub faulted : Gsr → Gsr
faulted g = record { f = true; df = g.df || g.f; ie = g.ie }

-- 3.2.3: bits 1 to 5 are reserved
abbrev pub gsr_of : (value : ℕ) → Gsr
gsr_of value = record { f = bit value F; df = bit value DF; ie = bit value IE }

abbrev pub gsr_byte : Gsr → ℕ
gsr_byte g = 128 * flag g.f + 64 * flag g.df + flag g.ie

-- 3.2.1: entry i of the address space table
abbrev pub entry : Shared → (i : ℕ) → ℕ
entry h i = get_or h.table i 0

-- The shared registers with one of them changed.
abbrev pub with_entry : Shared → (i value : ℕ) → Shared
with_entry h i value = record { table = set h.table i value; gsr = h.gsr; ivr = h.ivr; board = h.board }

abbrev pub with_gsr : Shared → Gsr → Shared
with_gsr h g = record { table = h.table; gsr = g; ivr = h.ivr; board = h.board }

abbrev pub with_ivr : Shared → ℕ → Shared
with_ivr h ivr = record { table = h.table; gsr = h.gsr; ivr = ivr; board = h.board }
