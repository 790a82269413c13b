-- Tables that hold a tree reach as far as the functions ask that change their words.
use Rattle.std.proofs.Common.{◌≡◌, ◌+◌, ◌*◌, ◌<◌, ◌≤◌, length}
use Rattle.tables.specs.Lookup.{Place}
use Rattle.tables.specs.Edits.{Tables}
use Rattle.tables.proofs.Ranges.{in_range}
use Rattle.tables.proofs.Reaches.{Reach}
use Rattle.change.specs.Given.{Held}

-- the rows of both tables of nodes
pub rows : {T : Tables} → Reach T → (4 * T.used.nodes ≤ length T.nodes) × (2 * T.used.nodes ≤ length T.sums)
rows r = (r.nodes, r.sums)

-- a directory's entries, and a file's cells
module _ {T : Tables} {p : Place} (g : Held T p) where
  pub entries_used : p.kind ≡ 0 → (p.row < T.used.nodes) × (p.entries + p.count ≤ T.used.entries)
  entries_used is = let w = in_range _ _ _ _ _ _ g.holds g.stands in (w.row, w.dir_entries is)

  pub cells_used : p.kind ≡ 1 → (p.row < T.used.nodes) × (p.cells + p.count ≤ T.used.cells)
  cells_used is = let w = in_range _ _ _ _ _ _ g.holds g.stands in (w.row, w.file_cells is)
