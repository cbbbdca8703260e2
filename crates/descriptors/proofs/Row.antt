-- The row of 3.1.6, computed: each of the eight bits either has a name or is reserved. Assumes nothing.
use mathlib.Core.Path.{◌≡◌, refl}
use mathlib.Core.Bool.{true, not, ◌||◌, beq}
use lib.Dec.{eqb}
use Rattle.masks.specs.Fields.{every}
use Rattle.descriptors.specs.Status.{E, WP, M, IP, I, U, reserved}

pub each_bit : every 8 (λ i. beq (reserved i) (not (eqb i E || eqb i WP || eqb i M || eqb i IP || eqb i I || eqb i U))) ≡ true
unfolding every
each_bit = refl
