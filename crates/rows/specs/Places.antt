-- A node's place, and how much of the tables is in use, as code has them and as the tables' definitions do. Definitions only.
use Rattle.machine.specs.State.{Counts}
use Rattle.tables.specs.Lookup as lookup
use Rattle.rows.specs.Kinds.{kind_number}
use Rattle.rows.specs.declared.nodes.Place.{Place}
use Rattle.rows.specs.declared.used.Used.{Used}

abbrev pub place_in : Place → lookup.Place
place_in p =
    record { row = p.row; kind = kind_number p.kind; count = p.count; entries = p.entries; cells = p.cells }

abbrev pub counts_in : Used → Counts
counts_in u = record { next = u.next; nodes = u.nodes; entries = u.entries; cells = u.cells }
