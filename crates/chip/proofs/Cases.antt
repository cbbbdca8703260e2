-- The twelve worked cases, computed from the definitions. Assumes nothing.
use mathlib.Core.Path.{◌≡◌, refl}
use mathlib.Core.Bool.{true}
use Rattle.masks.specs.Fields.{bit, field, every, alike, agree, clash, gate}
use Rattle.descriptors.specs.Status.{raise, lower, clean, used, modified, disabled, rewritten}
use Rattle.descriptors.specs.Descriptor.{matches, match_answer, clashes}
use Rattle.chip.specs.System.{with_units, with_shared, with_descriptor, each}
use Rattle.chip.specs.Search.{first, searched}
use Rattle.chip.specs.Answer.{refused, granted}
use Rattle.chip.specs.Reset.{unselected, fresh}
use Rattle.chip.specs.Access.{fault, violation, undefined, match_at, translate_at, translate}
use Rattle.chip.specs.Transfer.{transfer, write_status}
use Rattle.chip.specs.Prepare.{send, prepare}
use Rattle.chip.specs.Load.{load_at, load}
use Rattle.chip.specs.Translation.{result_at, direct_translation}
use Rattle.chip.specs.Register.{register_at, read, write_gsr, write, operate}
use Rattle.chip.specs.Call.{performed}
use Rattle.chip.specs.Cases.{cases, all_hold}

pub cases_hold : all_hold cases ≡ true
unfolding bit field every alike agree clash gate raise lower clean used modified disabled rewritten matches
    match_answer clashes with_units with_shared with_descriptor each first searched refused granted unselected fresh
    fault violation undefined match_at translate_at translate transfer write_status send prepare
    load_at load result_at direct_translation register_at read write_gsr write operate performed
cases_hold = refl
