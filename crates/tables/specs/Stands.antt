-- WHAT TABLES STAND FOR: that tables hold a tree, and that a node stands at a place. Definitions only.
use Rattle.std.specs.Prelude.{◌≡◌, ℕ, ◌+◌, ◌*◌, ◌<◌, ◌≤◌, true, false, ◌⊎◌, List, [], ◌∷◌, ◌++◌, length, get_or, drop, slice_index, slice_index_or}
use Rattle.blocks.specs.Words.{pad, closed}
use Rattle.model.specs.Tree.{Name, Entry, Body, Node, Tree, find_node, body_of, find_name, entries, cells, is_dir, is_file, all_cells}
use Rattle.model.specs.Fs.{no_entry}
use Rattle.machine.specs.State.{entry_count, counts_of}
use Rattle.machine.specs.Tables.{kind_of, count_of, name_key, node_words, sum_words, entry_words, cell_words, entry_from}
use Rattle.machine.specs.Fits.{every, ok_name, ok_node, rising}
use Rattle.tables.specs.Lookup.{row_entries, row_cells, Ascends, Place, place_of, entry_id, entry_key, name_row}
use Rattle.tables.specs.Edits.{Tables}

-- the tables of a tree, with room for so many nodes and so many cells
abbrev pub tables_of : ℕ → ℕ → Tree → Tables
tables_of m room t = record {
  nodes = pad (4 * m) (node_words t.nodes);
  sums = pad (2 * m) (sum_words 0 0 t.nodes);
  entries = pad (16 * m) (entry_words t.nodes);
  cells = pad room (cell_words t.nodes);
  used = counts_of t;
}

-- tables hold a tree: they are its tables, and there is room
pub record Holds (m room : ℕ) (t : Tree) (T : Tables) : Type 0 where
  pub nodes : T.nodes ≡ pad (4 * m) (node_words t.nodes)
  pub sums : T.sums ≡ pad (2 * m) (sum_words 0 0 t.nodes)
  pub entries : T.entries ≡ pad (16 * m) (entry_words t.nodes)
  pub cells : T.cells ≡ pad room (cell_words t.nodes)
  pub next_id : T.used.next ≡ t.next
  pub nodes_used : T.used.nodes ≡ length t.nodes
  pub entries_used : T.used.entries ≡ entry_count t.nodes
  pub cells_used : T.used.cells ≡ length (all_cells t.nodes)
  pub nodes_fit : T.used.nodes ≤ m
  pub entries_fit : T.used.entries ≤ m
  pub cells_fit : T.used.cells ≤ room

-- the first node with an id, with those before it and after it, stands at a place
pub record Stands (i : ℕ) (ts : List Node) (p : Place) : Type 0 where
  pub pre : List Node
  pub body : Body
  pub post : List Node
  pub whole : ts ≡ pre ++ (record { id = i; body = body } ∷ post)
  pub first : find_node i pre ≡ []
  pub row : length pre ≡ p.row
  pub kind : kind_of body ≡ p.kind
  pub count : count_of body ≡ p.count
  pub entries : entry_count pre ≡ p.entries
  pub cells : length (all_cells pre) ≡ p.cells

-- what a search for an id among all nodes gives: no row, or the place where its node stands
abbrev pub LookedUp : ℕ → List Node → Place → Type 0
LookedUp i ts p = ((p.row ≡ length ts) × (find_node i ts ≡ [])) ⊎ ((p.row < length ts) × Stands i ts p)

-- the first entry with a name, with those before it and after it, is the j-th
pub record EntryStands (n : Name) (es : List Entry) (j : ℕ) : Type 0 where
  pub pre : List Entry
  pub entry : Entry
  pub post : List Entry
  pub whole : es ≡ pre ++ (entry ∷ post)
  pub first : find_name n pre ≡ []
  pub named : entry.name ≡ n
  pub at : length pre ≡ j

-- what a search for a name among all entries of a directory gives: no row, or the j-th, with that id
abbrev pub NameLookedUp : Name → List Entry → ℕ → ℕ → Type 0
NameLookedUp n es j id =
    ((j ≡ length es) × (find_name n es ≡ [])) ⊎ ((j < length es) × EntryStands n es j × (find_name n es ≡ id ∷ []))

-- what a place of kind 0 says of a tree, and one of kind 1
pub record DirAt (i : ℕ) (ts : List Node) (p : Place) : Type 0 where
  pub dir : is_dir (find_node i ts) ≡ true
  pub no_file : is_file (find_node i ts) ≡ false
  pub many : p.count ≡ length (entries (find_node i ts))

pub record FileAt (i : ℕ) (ts : List Node) (p : Place) : Type 0 where
  pub no_dir : is_dir (find_node i ts) ≡ false
  pub file : is_file (find_node i ts) ≡ true
  pub many : p.count ≡ length (cells (find_node i ts))
  pub no_entries : entries (find_node i ts) ≡ []

-- ALL THAT IS READ of tables that hold a tree
pub record Readable (t : Tree) (T : Tables) : Type 0 where
  -- a node by its id, and that its row may be searched for by halves
  pub node : (i : ℕ) → LookedUp i t.nodes (place_of i T.used.nodes T.nodes T.sums)
  pub ascends : rising 0 t.nodes ≡ true → Ascends T.used.nodes T.nodes
  -- the k-th entry of a directory: its id, its key, and all of it
  pub id : (i : ℕ) (p : Place) (k : ℕ) → Stands i t.nodes p → k < length (entries (body_of t i)) →
      entry_id T.entries (p.entries + k) ≡ (get_or (entries (body_of t i)) k no_entry).id
  pub key : (i : ℕ) (p : Place) (k : ℕ) → Stands i t.nodes p → k < length (entries (body_of t i)) →
      entry_key T.entries (p.entries + k) ≡ name_key (get_or (entries (body_of t i)) k no_entry).name
  pub entry : (i : ℕ) (p : Place) (k : ℕ) → Stands i t.nodes p → every (ok_node t.next) t.nodes ≡ true →
      k < length (entries (body_of t i)) → entry_from (drop (16 * (p.entries + k)) T.entries) ≡ slice_index_or (entries (body_of t i)) k no_entry
  -- a name in a directory
  pub name : (i : ℕ) (p : Place) (n : Name) → Stands i t.nodes p → every (ok_node t.next) t.nodes ≡ true → ok_name n ≡ true →
      p.kind ≡ 0 →
      NameLookedUp n (entries (body_of t i)) (name_row (name_key n) p.count p.entries T.entries)
      (entry_id T.entries (p.entries + name_row (name_key n) p.count p.entries T.entries))
  -- the cell at a place of a file
  pub cell : (i : ℕ) (p : Place) (o : ℕ) → Stands i t.nodes p → p.kind ≡ 1 → o < p.count →
      slice_index T.cells (p.cells + o) ≡ slice_index (cells (body_of t i)) o

-- HOW FAR THEY REACH: the tables' lengths, sums that stay within what is in use, and what a place tells of them
pub record Bounds (m room : ℕ) (T : Tables) : Type 0 where
  pub nodes_long : length T.nodes ≡ 4 * m
  pub sums_long : length T.sums ≡ 2 * m
  pub entries_long : length T.entries ≡ 16 * m
  pub cells_long : length T.cells ≡ room
  pub entries_before : (k : ℕ) → k < T.used.nodes → row_entries T.sums k ≤ T.used.entries
  pub cells_before : (k : ℕ) → k < T.used.nodes → row_cells T.sums k ≤ T.used.cells

pub record Within (T : Tables) (p : Place) : Type 0 where
  pub row : p.row < T.used.nodes
  pub entries : p.entries ≤ T.used.entries
  pub cells : p.cells ≤ T.used.cells
  pub dir_entries : p.kind ≡ 0 → p.entries + p.count ≤ T.used.entries
  pub file_cells : p.kind ≡ 1 → p.cells + p.count ≤ T.used.cells
  -- the sums of later rows are at least as large, so that they can be lowered
  pub later_entries : p.kind ≡ 0 → (k : ℕ) → p.row < k → k < T.used.nodes → p.entries + p.count ≤ row_entries T.sums k
  pub later_cells : p.kind ≡ 1 → (k : ℕ) → p.row < k → k < T.used.nodes → p.cells + p.count ≤ row_cells T.sums k
  -- also where the node's own row is gone
  pub gone_cells : p.kind ≡ 1 → (k : ℕ) → p.row ≤ k → k + 1 < T.used.nodes →
      p.count ≤ row_cells (closed (2 * T.used.nodes) (2 * p.row) 2 T.sums) k
