-- The example of document 01, computed from the definitions. Assumes nothing.
use mathlib.Core.Path.{◌≡◌, refl}
use Rattle.masks.specs.Fields.{bit, field, every, alike, agree, gate}
use Rattle.descriptors.specs.Status.{raise, used}
use Rattle.descriptors.specs.Descriptor.{matches}
use Rattle.chip.specs.System.{with_units, with_shared, with_descriptor}
use Rattle.chip.specs.Search.{first, searched}
use Rattle.chip.specs.Answer.{refused, granted}
use Rattle.chip.specs.Reset.{unselected, fresh}
use Rattle.chip.specs.Access.{match_at, translate_at, translate}
use Rattle.chip.specs.Register.{register_at, read, write, operate}
use Rattle.chip.specs.Call.{performed}
use Rattle.lines.specs.Line.{fits, meaning}
use Rattle.lines.specs.Print.{printed}
use Rattle.lines.specs.Turn.{transcript}
use Rattle.lines.specs.Example.{example_input, example_output}

pub example_holds : transcript example_input ≡ example_output
unfolding bit field every alike agree gate raise used matches with_units with_shared with_descriptor
    first searched refused granted unselected fresh match_at translate_at translate register_at
    read write operate performed fits meaning printed
example_holds = refl
