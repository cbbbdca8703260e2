-- The priority encoder: handbook 3.2.6 and 3.2.7. Descriptor 0 has the highest priority; of several
-- units the lowest (document 01, "A bus access").
use Rattle.std.specs.Prelude.{ℕ, suc, zero, ◌*◌, ◌/◌, ◌%◌, Bool, ◌&&◌, cond, Option, Some, None, is_some, ok_or, option_map, Result, Ok, Err}
use Rattle.descriptors.specs.Descriptor.{matches, match_answer, space_alone, pending}
use Rattle.registers.specs.Unit.{none}
use Rattle.chip.specs.System.{present, descriptor}
use Rattle.descriptors.specs.declared.descriptor.Descriptor.{Descriptor}
use Rattle.chip.specs.declared.system.System.{System}
use Rattle.chip.specs.declared.search.Place.{Place}
use Rattle.chip.specs.declared.system.PlaceIndex.{PlaceIndex}

-- the lowest of n places, the first of them `from`, of which p holds
unfoldable pub first : (ℕ → Bool) → (from n : ℕ) → Option ℕ
first p from zero = None
first p from (suc n) = cond (p from) (Some from) (first p (suc from) n)

-- 3.2.6, 3.2.7: the number of the descriptor selected by the priority encoder, or NVR or NVI
abbrev pub number_of : Option ℕ → ℕ
number_of (Some i) = i % 32
number_of None = none

-- the first descriptor of the system, and of unit m, of which p holds
abbrev pub in_system : (Descriptor → Bool) → System → Option ℕ
in_system p s = first (λ i. p (descriptor s i)) 0 (32 * present s)

abbrev pub in_unit : (Descriptor → Bool) → (m : ℕ) → System → Option ℕ
in_unit p m s = first (λ i. p (descriptor s i)) (32 * m) 32

-- 4.5.3.1, 4.5.3.4: the descriptor that matches, if any
abbrev pub matching : (page number : ℕ) → System → Option ℕ
matching page number = in_system (λ d. matches d page number)

-- document 02, P4: "the lowest unit and then descriptor whose space alone differed, if there is one"
abbrev pub near_place : (page number : ℕ) → System → Option ℕ
near_place page number = in_system (λ d. space_alone (match_answer d page number))

-- place i of the 192 by its unit and descriptor
abbrev pub place : (i : ℕ) → Place
place i = record { unit = i / 32; descriptor = i % 32 }

-- what a search for a match tells: where it is; and where there is none, the descriptor that is near, if one is
unfoldable pub searched : (page number : ℕ) → System → Result ℕ (Option Place)
searched page number s = ok_or (matching page number s) (option_map place (near_place page number s))

-- a search hands out the place itself, one of the 192 by its type: what it tells is where that is, by number
abbrev pub located : Result PlaceIndex (Option Place) → Result ℕ (Option Place)
located (Ok i) = Ok i.value
located (Err near) = Err near

-- 3.2.4: LIP is set if one or more descriptors have IP set
abbrev pub lip : (m : ℕ) → System → Bool
lip m s = is_some (in_unit pending m s)

-- 3.2.7: the highest-priority descriptor which has IP set in its SSR
abbrev pub idp : (m : ℕ) → System → ℕ
idp m s = number_of (in_unit pending m s)

-- 2.14, 3.2.3: the interrupt request line: IE, and an IP bit in some unit
abbrev pub irq : System → Bool
irq s = s.shared.gsr.ie && is_some (in_system pending s)
