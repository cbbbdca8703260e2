-- A bus access, the normal address translation: handbook 4.5.3.
use Rattle.std.specs.Prelude.{ℕ, ◌+◌, ◌*◌, ◌/◌, ◌%◌, Bool, true, false, ◌&&◌, cond, Option, Result, Ok, Err}
use Rattle.descriptors.specs.Status.{used, modified}
use Rattle.descriptors.specs.Descriptor.{protected, physical_page, with_ssr}
use Rattle.registers.specs.Unit.{NO, USA, WV, none, latch, report, with_rw}
use Rattle.registers.specs.Shared.{entry, faulted, with_gsr}
use Rattle.chip.specs.System.{unit, descriptor, with_descriptor, with_unit, with_shared, in_all}
use Rattle.chip.specs.Search.{place, searched}
use Rattle.chip.specs.Answer.{granted}
use Rattle.chip.specs.declared.system.System.{System}
use Rattle.chip.specs.declared.access.Cycle.{Cycle}
use Rattle.chip.specs.declared.access.Cycle.TheVariants.{Read, Write, ReadModifyWrite}
use Rattle.chip.specs.declared.answer.Answer.TheVariants.{Mapped, Violation, Undefined}
use Rattle.chip.specs.declared.answer.Outcome.{Outcome}
use Rattle.chip.specs.declared.search.Place.{Place}

-- R/W as the cycle begins: high for a read, and for a read-modify-write, in which it falls later (4.5.3.2, item 3)
abbrev pub reads_first : Cycle → Bool
reads_first Read = true
reads_first Write = false
reads_first ReadModifyWrite = true

-- R/W is low, as the cycle begins or later
abbrev pub writes : Cycle → Bool
writes Read = false
writes Write = true
writes ReadModifyWrite = true

-- 4.5.3.2: the U and, if the cycle was a write, the M bits are set; if the I bit is set, then IP
abbrev pub touched : Cycle → (ssr : ℕ) → ℕ
touched cycle ssr = cond (writes cycle) (modified (used ssr)) (used ssr)

-- a successful translation by the descriptor at place i
abbrev pub touch : Cycle → (i : ℕ) → System → System
touch cycle i s = with_descriptor s i (with_ssr (descriptor s i) (touched cycle (descriptor s i).ssr))

-- 4.5.3.2, item 3: a cycle that begins as a read has been translated as one before R/W falls
unfoldable pub read_half : Cycle → (i : ℕ) → System → System
read_half cycle i s = cond (reads_first cycle) (touch Read i s) s

-- 3.2.3, 3.2.4: on a fault F is set, DF if F was previously set; the state of R/W is latched in every unit
unfoldable pub fault : (rw : Bool) → System → System
fault rw s =
    let t = in_all (λ u. with_rw u rw) s in
    with_shared t (with_gsr t.shared (faulted t.shared.gsr))

-- 4.5.3.3, 4.5.3.6: a write violation in unit m, at its descriptor n: R/W is low; L4-L7 are cleared in every
-- other unit, and the RDP has no valid result there
unfoldable pub violation : (page number m n : ℕ) → System → System
violation page number m n s =
    let t = in_all (report NO none) (fault false s) in
    with_unit t m (report WV n (latch page number (unit t m)))

-- 4.5.3.7: an undefined segment access, which ends the cycle
unfoldable pub undefined : Cycle → (page number : ℕ) → System → System
undefined cycle page number s = in_all (report USA none) (in_all (latch page number) (fault (reads_first cycle) s))

-- 4.5.3.2: the descriptor at place i matches; WIN is reported when WP is set (2.23)
unfoldable pub match_at : (i : ℕ) → Cycle → (page number offset : ℕ) → System → Outcome
match_at i cycle page number offset s =
    let d = descriptor s i in
    cond (writes cycle && protected d)
    (granted (Violation (place i) true) (violation page number (i / 32) (i % 32) (read_half cycle i s)))
    (granted (Mapped (256 * physical_page d page + offset) (place i) (protected d)) (touch cycle i s))

-- the undefined answer carries the descriptor that is near (document 02, P4)
unfoldable pub translate_at : Result ℕ (Option Place) → Cycle → (page number offset : ℕ) → System → Outcome
translate_at (Ok i) cycle page number offset s = match_at i cycle page number offset s
translate_at (Err near) cycle page number offset s = granted (Undefined near) (undefined cycle page number s)

-- 4.5.3: the function code selects the cycle address space number; the low eight address bits pass
unfoldable pub translate : (code : ℕ) → Cycle → (address : ℕ) → System → Outcome
translate code cycle address s =
    let page = address / 256 in
    let number = entry s.shared code in
    translate_at (searched page number s) cycle page number (address % 256) s
