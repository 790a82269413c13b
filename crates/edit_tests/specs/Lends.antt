-- What a moment has, as words, and that these are lent. Definitions only.
use Rattle.std.specs.Prelude.{◌≡◌}
use Rattle.tables.specs.Edits as edits
use Rattle.rows.specs.Places.{counts_in}
use Rattle.memory.specs.declared.newest.Tables.{Tables}
use Rattle.edit_tests.specs.declared.moments.Moment.{Moment}

abbrev pub words : Moment → edits.Tables
words m = record { nodes = m.nodes; sums = m.sums; entries = m.entries; cells = m.cells; used = counts_in m.used }

-- the words of a moment's tables
pub record Lends (m : Moment) (t : Tables) : Type 0 where
  pub nodes : t.nodes.now ≡ m.nodes
  pub sums : t.sums.now ≡ m.sums
  pub entries : t.entries.now ≡ m.entries
  pub cells : t.cells.now ≡ m.cells
