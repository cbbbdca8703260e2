-- The registers in clean form: each within its bits.
use Rattle.std.specs.Prelude.{ℕ, ◌^◌, ◌<◌, ◌≡◌, length}
use Rattle.registers.specs.Unit.{rdp_of, ac}
use Rattle.registers.specs.Shared.{entry}
use Rattle.registers.specs.declared.unit.Unit.{Unit}
use Rattle.registers.specs.declared.shared.Shared.{Shared}

-- 3.2.2, 3.2.4 to 3.2.6: nine bytes, five bits of DP, NVR or five bits of RDP, four bits of L
pub record CleanUnit (u : Unit) : Type 0 where
  pub bytes : length u.accumulator ≡ 9
  pub ac : (i : ℕ) → ac u i < 2 ^ 8
  pub dp : u.dp < 2 ^ 5
  pub rdp : rdp_of u.rdp ≡ u.rdp
  pub l : u.l < 2 ^ 4

-- 3.2.1, 3.2.8: sixteen bytes and one; a count is kept in a byte
pub record CleanShared (h : Shared) : Type 0 where
  pub entries : length h.table ≡ 16
  pub entry : (i : ℕ) → entry h i < 2 ^ 8
  pub ivr : h.ivr < 2 ^ 8
  pub count : h.board.count < 2 ^ 8
