-- The rule of two bytes that may both be marked, and when a pair breaks it. Assumes nothing.
use Rattle.std.proofs.Common.{◌≡◌, Bool, true, false, not, ◌&&◌, ◌||◌, eqb, refl}
use Rattle.registers.specs.declared.unit.Byte.{Byte}

abbrev pub rule : (x y : Byte) → Bool
rule x y = not (x.global && y.global) || eqb x.value y.value

-- a pair that breaks it: marked in both, and of two values
abbrev pub test : (x y : Byte) → Bool
test x y = x.global && y.global && not (eqb x.value y.value)

pub rule_test : (x y : Byte) → rule x y ≡ not (test x y)
rule_test x y = go x.global y.global (eqb x.value y.value)
  where
    go : (g h e : Bool) → not (g && h) || e ≡ not (g && h && not e)
    go true true true = refl
    go true true false = refl
    go true false e = refl
    go false h e = refl
