-- The words of the tables that code was lent, and that they hold a tree that fits. Definitions only.
use Rattle.model.specs.Tree as tree
use Rattle.model.specs.Refusals.{Limits}
use Rattle.machine.specs.Fits.{Fits}
use Rattle.tables.specs.Edits.{Tables}
use Rattle.tables.specs.Stands.{Holds}
use Rattle.rows.specs.Places.{counts_in}
use Rattle.lookup.specs.declared.view.View.{View}

-- the words of the tables
abbrev pub words : View → Tables
words v = record {
  nodes = v.nodes.now;
  sums = v.sums.now;
  entries = v.entries.now;
  cells = v.cells.now;
  used = counts_in v.used;
}

-- the tables hold a tree that fits
pub record Sound (l : Limits) (T : Tables) (t : tree.Tree) : Type 0 where
  pub holds : Holds l.nodes_most l.room t T
  pub fits : Fits l t

-- there is such a tree
abbrev pub SomeTree : Limits → Tables → Type 0
SomeTree l T = (t : tree.Tree) × Sound l T t

-- by some limits there is such a tree
abbrev pub AnyTree : Tables → Type 0
AnyTree T = (l : Limits) × SomeTree l T
