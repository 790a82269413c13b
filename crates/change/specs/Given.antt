-- WHAT A CHANGE OF A TREE STARTS FROM: tables that hold a tree, and where in them stands what is changed. Each record has the tree and
-- the ids and names that the tables do not show, so that a contract can ask that there is one, and speak of each. Definitions only.
use Rattle.std.specs.Prelude.{◌≡◌, ℕ, List, []}
use Rattle.model.specs.Tree.{Name, Body, dir, file, Tree, body_of, entries, named, without_any}
use Rattle.tables.specs.Lookup.{Place}
use Rattle.tables.specs.Edits.{Tables}
use Rattle.tables.specs.Stands.{Holds, Stands, EntryStands}
use Rattle.rows.specs.declared.nodes.Kind.{Kind}
use Rattle.rows.specs.declared.nodes.Kind.TheVariants.{Dir, File}

-- a new node's body
abbrev pub empty : Kind → Body
empty Dir = dir []
empty File = file []

-- tables with other cells, or with other entries: whatever stands in a table that a change does not touch
abbrev pub with_cells : List ℕ → Tables → Tables
with_cells cs T = record { nodes = T.nodes; sums = T.sums; entries = T.entries; cells = cs; used = T.used }

abbrev pub with_entries : List ℕ → Tables → Tables
with_entries es T = record { nodes = T.nodes; sums = T.sums; entries = es; cells = T.cells; used = T.used }

-- a node with that id stands at a row
pub record AtRow (i : ℕ) (t : Tree) (row : ℕ) : Type 0 where
  pub place : Place
  pub stands : Stands i t.nodes place
  pub at : place.row ≡ row

-- tables that hold a tree, and the place of one of its nodes
pub record Held (T : Tables) (p : Place) : Type 0 where
  pub most : ℕ
  pub room : ℕ
  pub tree : Tree
  pub id : ℕ
  pub holds : Holds most room tree T
  pub stands : Stands id tree.nodes p

-- the j-th entry of the directory at a place goes, and the node at a row, which has no entries
pub record Removing (T : Tables) (p : Place) (j row : ℕ) : Type 0 where
  pub dir : Held T p
  pub name : Name
  pub entry : EntryStands name (entries (body_of dir.tree dir.id)) j
  pub node : ℕ
  pub at : AtRow node dir.tree row
  pub empty : entries (body_of dir.tree node) ≡ []

-- the j-th entry of the directory at a place goes, and the directory at a row gets an entry with a new name. The tables hold the tree
-- without what had the new name
pub record Renaming (T : Tables) (p : Place) (j row : ℕ) (new : Name) : Type 0 where
  pub dir : Held T p
  pub name : Name
  pub entry : EntryStands name (entries (body_of dir.tree dir.id)) j
  pub to : ℕ
  pub at : AtRow to dir.tree row
  pub to_dir : at.place.kind ≡ 0
  pub whole : Tree
  pub rest : without_any to new (named whole to new) whole ≡ dir.tree
