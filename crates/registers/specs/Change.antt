-- What an event does to every unit alike, by name. Only the function that does it speaks of these names.
use Rattle.registers.specs.Unit.{with_l, with_rw, write_ac, write_dp, write_lsr, latch, report}
use Rattle.registers.specs.declared.unit.Unit.{Unit}
use Rattle.registers.specs.declared.unit.Change.{Change}
use Rattle.registers.specs.declared.unit.Change.TheVariants.{Ac, Dp, Lsr, L, Rw, Latch, Report}

abbrev pub changed : Change → Unit → Unit
changed (Ac i value) u = write_ac i value u
changed (Dp value) u = write_dp value u
changed (Lsr value) u = write_lsr value u
changed (L l) u = with_l u l
changed (Rw rw) u = with_rw u rw
changed (Latch logical) u = latch logical.page logical.number u
changed (Report l rdp) u = report l rdp u
