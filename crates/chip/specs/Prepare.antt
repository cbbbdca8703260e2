-- What a load and a direct translation do first: the accumulator is made globally consistent, handbook 3.2.4 and 4.6.3.
use Rattle.std.specs.Prelude.{ℕ, Bool, not, cond, List, [], ◌∷◌, is_some}
use Rattle.registers.specs.Unit.{ac, write_ac, consistent}
use Rattle.chip.specs.System.{present, unit, in_all}
use Rattle.chip.specs.Search.{first}
use Rattle.chip.specs.declared.system.System.{System}

-- 3.2.4: some unit's accumulator is not globally consistent in these bytes
abbrev pub inconsistent : List ℕ → System → Bool
inconsistent bytes s = is_some (first (λ m. not (consistent bytes (unit s m))) 0 (present s))

-- AC i of unit m goes to all units, as by a global write
unfoldable pub send : (i m : ℕ) → System → System
send i m s = in_all (write_ac i (ac (unit s m) i)) s

abbrev pub send_all : List ℕ → (m : ℕ) → System → System
send_all [] m s = s
send_all (i ∷ is) m s = send_all is m (send i m s)

-- before a load and a direct translation they do, where some unit needs it (decisions 2 and 3)
unfoldable pub prepare : List ℕ → (m : ℕ) → System → System
prepare bytes m s = cond (inconsistent bytes s) (send_all bytes m s) s
