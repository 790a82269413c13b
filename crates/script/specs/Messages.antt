-- What is printed of a line that could not be read. Definitions only.
use Rattle.std.specs.Prelude.{ℕ, List, ◌++◌, codes}
use Rattle.std.specs.Fmt.{decimal}
use Rattle.script.specs.declared.line.Unreadable.{Unreadable}
use Rattle.script.specs.declared.line.Unreadable.TheVariants.{Column, NoMemory}

abbrev pub unreadable_text : Unreadable → List ℕ
unreadable_text (Column k) = codes "column " ++ (decimal k ++ codes ": no line of a script goes on so")
unreadable_text NoMemory = codes "not enough memory"
