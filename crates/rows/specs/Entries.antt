-- An entry as code has it, and as the model does. Definitions only.
use Rattle.std.specs.Prelude.{take}
use Rattle.model.specs.Tree as tree
use Rattle.rows.specs.declared.entries.Entry.{Entry}

abbrev pub entry_in : Entry → tree.Entry
entry_in e = record { name = take e.len e.name; id = e.id }
