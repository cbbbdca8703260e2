-- Direct translation: handbook 4.6.3.3.
use Rattle.std.specs.Prelude.{ℕ, ◌/◌, ◌%◌, Option, Result, Ok, Err}
use Rattle.descriptors.specs.Descriptor.{physical_page}
use Rattle.registers.specs.Unit.{NO, none, ac, word, report, translated, for_translation}
use Rattle.chip.specs.System.{unit, descriptor, with_unit, in_all}
use Rattle.chip.specs.Search.{searched}
use Rattle.chip.specs.Answer.{reading}
use Rattle.chip.specs.Prepare.{prepare}
use Rattle.chip.specs.declared.system.System.{System}
use Rattle.chip.specs.declared.answer.Reading.{Reading}
use Rattle.chip.specs.declared.search.Place.{Place}

-- the result, by where the matching descriptor was found: L4-L7 are cleared in every other unit; where nothing matches the answer
-- carries the descriptor that is near (document 02, P4)
unfoldable pub result_at : Result ℕ (Option Place) → (page : ℕ) → System → Reading
result_at (Err near) page s = record { byte = 0xFF; near = near; system = in_all (report NO none) s }
result_at (Ok i) page s =
    let t = in_all (report NO none) s in
    reading 0x00
    (with_unit t (i / 32) (translated (physical_page (descriptor s i) page) (i % 32) (unit t (i / 32))))

-- the logical address in AC0-AC1 in the address space AC6 of unit m
unfoldable pub direct_translation : (m : ℕ) → System → Reading
direct_translation m s =
    let t = prepare for_translation m s in
    let page = word (unit t m) 0 in
    result_at (searched page (ac (unit t m) 6) t) page t
