-- A row of the table of nodes as a place, for definitions that take one. Definitions only.
use Rattle.std.specs.Prelude.{ℕ}
use Rattle.tables.specs.Lookup.{Place}

-- a place of which only the row matters
abbrev pub at_row : ℕ → Place
at_row k = record { row = k; kind = 0; count = 0; entries = 0; cells = 0 }
