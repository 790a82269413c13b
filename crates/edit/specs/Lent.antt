-- What a change of lent tables asks of them, by how much of them is in use. Definitions only.
use Rattle.std.specs.Prelude.{List, ℕ, ◌+◌, ◌*◌, ◌≤◌, ◌<◌, length}
use Rattle.tables.specs.Lookup.{row_entries, row_cells}
use Rattle.rows.specs.declared.nodes.Place.{Place}
use Rattle.rows.specs.declared.used.Used.{Used}
use Rattle.memory.specs.declared.newest.Tables.{Tables}

-- the rows in use of the two tables of nodes are lent
abbrev pub RowsLent : Tables → Used → Type 0
RowsLent t u = (4 * u.nodes ≤ length t.nodes.now) × (2 * u.nodes ≤ length t.sums.now)

-- the node at a place is in use, and its entries are; or its cells
abbrev pub EntriesUsed : Used → Place → Type 0
EntriesUsed u p = (p.row < u.nodes) × (p.entries + p.count ≤ u.entries)

abbrev pub CellsUsed : Used → Place → Type 0
CellsUsed u p = (p.row < u.nodes) × (p.cells + p.count ≤ u.cells)

-- no sum of a row in use is more than what is in use
abbrev pub SumsLow : List ℕ → Used → Type 0
SumsLow ss u =
    ((k : ℕ) → k < u.nodes → row_entries ss k ≤ u.entries) × ((k : ℕ) → k < u.nodes → row_cells ss k ≤ u.cells)
