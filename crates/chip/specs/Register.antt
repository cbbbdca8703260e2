-- The registers by their addresses: handbook 4.6.1, Table 4-3.
use Rattle.std.specs.Prelude.{ℕ, ◌-◌, ◌/◌, ◌%◌, cond, eqb, ltb}
use Rattle.registers.specs.Unit.{NO, ac, lsr, write_ac, write_dp, write_lsr, with_l}
use Rattle.registers.specs.Shared.{entry, gsr_of, gsr_byte, with_entry, with_gsr, with_ivr}
use Rattle.chip.specs.System.{unit, with_shared, in_all}
use Rattle.chip.specs.Search.{lip, idp}
use Rattle.chip.specs.Answer.{granted, reading}
use Rattle.chip.specs.Transfer.{transfer, write_status}
use Rattle.chip.specs.Load.{load}
use Rattle.chip.specs.Translation.{direct_translation}
use Rattle.chip.specs.declared.system.System.{System}
use Rattle.chip.specs.declared.answer.Reading.{Reading}
use Rattle.chip.specs.declared.register.Register.{Register}
use Rattle.chip.specs.declared.register.Register.TheVariants.{Ast, Ac, Dp, Ivr, Gsr, Lsr, Ssr, Idp, Rdp, DirectTranslation, LoadDescriptor, Null}
use Rattle.chip.specs.declared.register.Operation.{Operation}
use Rattle.chip.specs.declared.register.Operation.TheVariants.{Read, Write}
use Rattle.chip.specs.declared.answer.Answer.TheVariants.{Done, Byte}
use Rattle.chip.specs.declared.answer.Outcome.{Outcome}

-- Table 4-3, row by row
unfoldable pub register_at : (address : ℕ) → Register
register_at a =
    cond (ltb a 0x20) (cond (eqb (a % 2) 0) (Ast (a / 2)) Null)
    (cond (ltb a 0x29) (Ac (a - 0x20))
    (cond (eqb a 0x29) Dp
    (cond (eqb a 0x2B) Ivr
    (cond (eqb a 0x2D) Gsr
    (cond (eqb a 0x2F) Lsr
    (cond (eqb a 0x31) Ssr
    (cond (eqb a 0x39) Idp
    (cond (eqb a 0x3B) Rdp
    (cond (eqb a 0x3D) DirectTranslation
    (cond (eqb a 0x3F) LoadDescriptor
    Null))))))))))

-- 4.6.2.2: a register is read in unit m; some addresses designate an operation, and a null operation
-- drives the bus high (4.6.2.5)
unfoldable pub read : Register → (m : ℕ) → System → Reading
read (Ast i) m s = reading (entry s.shared i) s
read (Ac i) m s = reading (ac (unit s m) i) s
read Dp m s = reading (unit s m).dp s
read Ivr m s = reading s.shared.ivr s
read Gsr m s = reading (gsr_byte s.shared.gsr) s
read Lsr m s = reading (lsr (unit s m) (lip m s)) s
read Ssr m s = transfer m s
read Idp m s = reading (idp m s) s
read Rdp m s = reading (unit s m).rdp s
read DirectTranslation m s = direct_translation m s
read LoadDescriptor m s = load m s
read Null m s = reading 0xFF s

-- 3.2.3: clearing F automatically clears L4-L7
unfoldable pub write_gsr : (value : ℕ) → System → System
write_gsr value s =
    let g = gsr_of value in
    let t = with_shared s (with_gsr s.shared g) in
    cond g.f t (in_all (λ u. with_l u NO) t)

-- 4.6.3.1: each system register that can be written to is written globally; segment status is local,
-- and a write of any other address has no effect (4.6.2.5)
unfoldable pub write : Register → (m value : ℕ) → System → System
write (Ast i) m value s = with_shared s (with_entry s.shared i value)
write (Ac i) m value s = in_all (write_ac i value) s
write Dp m value s = in_all (write_dp value) s
write Ivr m value s = with_shared s (with_ivr s.shared value)
write Gsr m value s = write_gsr value s
write Lsr m value s = in_all (write_lsr value) s
write Ssr m value s = write_status m value s
write Idp m value s = s
write Rdp m value s = s
write DirectTranslation m value s = s
write LoadDescriptor m value s = s
write Null m value s = s

-- a register access in unit m, by byte
unfoldable pub operate : Operation → Register → (m : ℕ) → System → Outcome
operate Read r m s = let o = read r m s in granted (Byte o.byte o.near) o.system
operate (Write value) r m s = granted Done (write r m value s)
