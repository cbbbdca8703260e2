-- The example of document 01, "The bench program".
use Rattle.std.specs.Prelude.{ℕ, List, ◌++◌}
use Rattle.text.specs.Ascii.{ascii}

abbrev pub example_input : List ℕ
example_input =
    ascii "S 1 0\n"
    ++ ascii "T 5 R 001234\n"
    ++ ascii "G 0 2D\n"
    ++ ascii "T 5 W 000100\n"
    ++ ascii "W 0 2B 40\n"
    ++ ascii "G 0 2B\n"
    ++ ascii "A 0\n"
    ++ ascii "T 0 x\n"

abbrev pub example_output : List ℕ
example_output =
    ascii "ok 0\n"
    ++ ascii "P 001234 0 00 0 0\n"
    ++ ascii "= 00 0\n"
    ++ ascii "P 000100 0 00 0 0\n"
    ++ ascii "ok 0\n"
    ++ ascii "= 40 0\n"
    ++ ascii "no 6\n"
    ++ ascii "bad\n"
