-- The calls that a host can make, by name: document 01, "What the model covers". Each has its checks, and what it does where none
-- of them applies.
use Rattle.std.specs.Prelude.{Bool, not, List, [], ◌∷◌, ltb, None}
use Rattle.registers.specs.Shared.{board}
use Rattle.chip.specs.Search.{irq}
use Rattle.chip.specs.Answer.{granted, checked, miscounted, absent}
use Rattle.chip.specs.Reset.{unselectable, fresh}
use Rattle.chip.specs.Access.{translate}
use Rattle.chip.specs.Register.{register_at, operate}
use Rattle.chip.specs.declared.system.System.{System}
use Rattle.chip.specs.declared.answer.Refusal.{Refusal}
use Rattle.chip.specs.declared.answer.Refusal.TheVariants as refusal
use Rattle.chip.specs.declared.answer.Answer.TheVariants.{Done, Byte}
use Rattle.chip.specs.declared.answer.Outcome.{Outcome}
use Rattle.chip.specs.declared.call.Call.{Call}
use Rattle.chip.specs.declared.call.Call.TheVariants.{Start, Reset, Access, Register, Acknowledge}

-- "Numbers the host gets back": what is checked, in this order
abbrev pub checks : Call → System → List (Refusal × Bool)
checks (Start count selected) s = (refusal.Count, miscounted count) ∷ (refusal.Unit, unselectable selected count) ∷ []
checks (Reset selected) s =
    (refusal.Count, miscounted s.shared.board.count) ∷ (refusal.Unit, unselectable selected s.shared.board.count) ∷ []
checks (Access code cycle address) s =
    (refusal.Count, miscounted s.shared.board.count) ∷ (refusal.FunctionCode, ltb 15 code) ∷ (refusal.Address, ltb 0xFFFFFF address) ∷ []
checks (Register unit address operation) s =
    (refusal.Count, miscounted s.shared.board.count) ∷ (refusal.Unit, absent unit s.shared.board.count) ∷ (refusal.Register, ltb 0x3F address) ∷ []
checks (Acknowledge unit) s =
    (refusal.Count, miscounted s.shared.board.count) ∷ (refusal.Unit, absent unit s.shared.board.count) ∷ (refusal.Interrupt, not (irq s)) ∷ []

-- a start of `count` units; a reset of those that are there; a bus access; a register access in a unit; interrupt acknowledge, by
-- which the contents of the interrupt vector register are placed on D0-D7 (4.6.2.1)
abbrev pub carried_out : Call → System → Outcome
carried_out (Start count selected) s = granted Done (fresh (board count) selected)
carried_out (Reset selected) s = granted Done (fresh s.shared.board selected)
carried_out (Access code cycle address) s = translate code cycle address s
carried_out (Register unit address operation) s = operate operation (register_at address) unit s
carried_out (Acknowledge unit) s = granted (Byte s.shared.ivr None) s

unfoldable pub performed : Call → System → Outcome
performed c s = checked (checks c s) s (carried_out c s)
