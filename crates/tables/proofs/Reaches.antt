-- How far tables reach that hold a tree, and what a place in them says of that: what the functions that change words ask for.
use Rattle.std.proofs.Common.{ℕ, ◌*◌, ◌<◌, ◌≤◌, length, arith}
use Rattle.model.specs.Tree.{Tree}
use Rattle.tables.specs.Lookup.{row_entries, row_cells}
use Rattle.tables.specs.Edits.{Tables}
use Rattle.tables.specs.Stands.{Holds}
use Rattle.tables.proofs.Ranges.{in_bounds}

-- of tables alone
pub record Reach (T : Tables) : Type 0 where
  pub nodes : 4 * T.used.nodes ≤ length T.nodes
  pub sums : 2 * T.used.nodes ≤ length T.sums
  pub entries : 16 * T.used.entries ≤ length T.entries
  pub cells : T.used.cells ≤ length T.cells
  pub low :
      ((k : ℕ) → k < T.used.nodes → row_entries T.sums k ≤ T.used.entries)
      × ((k : ℕ) → k < T.used.nodes → row_cells T.sums k ≤ T.used.cells)

pub reach : {m room : ℕ} {t : Tree} {T : Tables} → Holds m room t T → Reach T
reach {m} {room} {t} {T} h =
    let b = in_bounds m room t T h in
    record {
      nodes = omega (arith, b.nodes_long, h.nodes_fit);
      sums = omega (arith, b.sums_long, h.nodes_fit);
      entries = omega (arith, b.entries_long, h.entries_fit);
      cells = omega (arith, b.cells_long, h.cells_fit);
      low = (b.entries_before, b.cells_before);
    }
