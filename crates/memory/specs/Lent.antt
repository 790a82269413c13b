-- WHAT IS LENT: the words in it, and that it is the same slices after a call. Definitions only.
use Rattle.std.specs.Prelude.{◌≡◌}
use Rattle.tables.specs.Edits as edits
use Rattle.rows.specs.declared.used.Used.{Used}
use Rattle.rows.specs.Places.{counts_in}
use Rattle.memory.specs.declared.newest.Tables.{Tables}
use Rattle.memory.specs.declared.status.Status.{Status}

-- the words of the tables, where so much of them is in use
abbrev pub tables_in : Tables → Used → edits.Tables
tables_in t u = record {
  nodes = t.nodes.now;
  sums = t.sums.now;
  entries = t.entries.now;
  cells = t.cells.now;
  used = counts_in u;
}

-- the same slices, whatever is in them: so whoever lent them finds the words there
pub record SameTables (a b : Tables) : Type 0 where
  pub nodes : b.nodes.ghost_name ≡ a.nodes.ghost_name
  pub sums : b.sums.ghost_name ≡ a.sums.ghost_name
  pub entries : b.entries.ghost_name ≡ a.entries.ghost_name
  pub cells : b.cells.ghost_name ≡ a.cells.ghost_name

pub record SameStatus (a b : Status) : Type 0 where
  pub head : b.head.ghost_name ≡ a.head.ghost_name
  pub superblock : b.superblock.ghost_name ≡ a.superblock.ghost_name
  pub held : b.held.ghost_name ≡ a.held.ghost_name
  pub fresh : b.fresh.ghost_name ≡ a.fresh.ghost_name
  pub own : b.own.ghost_name ≡ a.own.ghost_name
