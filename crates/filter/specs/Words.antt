-- The words of trouble, as bytes: plain text, in one line.
use Rattle.std.specs.Prelude.{ℕ, List, ◌++◌}
use Rattle.std.specs.Borrow.{Bor}
use Rattle.std.specs.List.{flat_map}
use Rattle.text.specs.Lines.{bytes_in}
use Rattle.filter.specs.declared.trouble.Program.{Program}
use Rattle.filter.specs.declared.trouble.Trouble.{Trouble}
use Rattle.filter.specs.declared.trouble.Trouble.TheVariants.{TooLong, Reading, Writing}

-- lent words, one behind the other
abbrev pub joined : List (Bor (List ℕ)) → List ℕ
joined words = flat_map (λ word. word.now) words

abbrev pub words_of : Program → Trouble → List ℕ
words_of program TooLong =
    program.name.now ++ (bytes_in ": the " ++ (program.input.now
    ++ (bytes_in " is longer than 1,048,576 bytes, so nothing was " ++ (program.done.now ++ bytes_in "\n"))))
words_of program Reading =
    program.name.now ++ (bytes_in ": reading the " ++ (program.input.now
    ++ (bytes_in " failed, so nothing was " ++ (program.done.now ++ bytes_in "\n"))))
words_of program Writing =
    program.name.now ++ (bytes_in ": writing failed, so the " ++ (program.output.now ++ bytes_in " is not whole\n"))
