-- Small laws of numbers, flags and lists that the functions' proofs cite. Assumes nothing.
use Prim.Native.Nat.{ℕ, ◌%◌, ◌^◌, ◌<◌, ◌≤◌}
use mathlib.Core.Path.{◌≡◌, refl, sym, ◌∙◌}
use mathlib.Core.Bool.{Bool, true, false, cond}
use mathlib.Core.List.{List, map}
use native.Mathlib.Omega.{arith}
use lib.Dec.{lit<, lit≤}
use lib.ListN.{length, length-map}
use mir.Val.{bool_byte}
use Rattle.masks.specs.Fields.{bit}
use Rattle.registers.specs.Unit.{none, rdp_of, for_translation, for_load, consistent, flag, held_lsr, lsr}
use Rattle.registers.specs.Shared.{gsr_byte}
use Rattle.registers.specs.declared.unit.Unit.{Unit}
use Rattle.registers.specs.declared.shared.Gsr.{Gsr}

-- the code's cast of a flag
pub flag_byte : (b : Bool) → bool_byte b ≡ flag b
flag_byte true = refl
flag_byte false = refl

pub flag_small : (b : Bool) → bool_byte b ≤ 1
flag_small true = lit≤ tt
flag_small false = lit≤ tt

pub small : (b : Bool) → flag b ≤ 1
small b = rw (← flag_byte b) (flag_small b)

pub held_small : (u : Unit) → held_lsr u ≤ 248
held_small u = omega (arith, small u.rw)

-- the byte of each register fits
pub lsr_fits : (u : Unit) (lip : Bool) → lsr u lip < 2 ^ 8
lsr_fits u lip = omega (arith, held_small u, small (consistent for_translation u), small (consistent for_load u), small lip)

pub gsr_fits : (g : Gsr) → gsr_byte g < 2 ^ 8
gsr_fits g = omega (arith, small g.f, small g.df, small g.ie)

pub rdp_fits : (x : ℕ) → rdp_of x ≡ x → x < 2 ^ 8
rdp_fits x e = rw (← e) (go (bit x 7))
  where
    go : (b : Bool) → cond b none (x % 32) < 2 ^ 8
    go true = lit< tt
    go false = omega arith

-- an array of structs has as many elements as what owning it tells of their values
pub counted : (X Y : Type 0) (f : X → Y) (l : List X) (n : ℕ) → length (map f l) ≡ n → length l ≡ n
counted X Y f l n e = sym (length-map l f) ∙ e
