-- What is appended is read back. A type whose proof is owed. Definitions only.
use Rattle.std.specs.Prelude.{◌≡◌, ℕ, true, List, ◌++◌, length, Some}
use Rattle.machine.specs.State.{Item}
use Rattle.machine.specs.Journal.{item_words, item_from}
use Rattle.machine.specs.Fits.{ok_call}

-- an item from its words, whatever follows them
abbrev pub ItemBack : Type 0
ItemBack = (i : Item) (rest : List ℕ) → ok_call i.call ≡ true →
    item_from (item_words i ++ rest) ≡ Some (i, length (item_words i))
