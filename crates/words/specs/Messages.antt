-- What is printed of bytes that could not be read. Definitions only.
use Rattle.std.specs.Prelude.{ℕ, List, ◌++◌, codes}
use Rattle.std.specs.Fmt.{decimal}
use Rattle.words.specs.declared.Unread.{Unread}
use Rattle.words.specs.declared.Unread.TheVariants.{Left, NoMemory}

abbrev pub unread_text : Unread → List ℕ
unread_text (Left n) = codes "not read on, with " ++ (decimal n ++ codes " bytes left")
unread_text NoMemory = codes "not enough memory"
