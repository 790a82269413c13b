-- CHANGING THE TABLES of a tree: the words after a change, by the words before it and what was read of them, in the order in
-- which code goes. Definitions only.
use Rattle.std.specs.Prelude.{ℕ, zero, suc, ◌+◌, ◌-◌, ◌*◌, List, [], ◌∷◌, length, set, slice_index, slice_set}
use Rattle.blocks.specs.Words.{opened, closed}
use Rattle.model.specs.Tree.{Name}
use Rattle.machine.specs.State.{Counts}
use Rattle.machine.specs.Tables.{entry_row}
use Rattle.tables.specs.Lookup.{Place}

-- the four tables, and how much of them is in use
pub record Tables : Type 0 where
  pub nodes : List ℕ
  pub sums : List ℕ
  pub entries : List ℕ
  pub cells : List ℕ
  pub used : Counts

-- SUMS. The two words of row k, changed one after the other; and those of n rows from row k on
abbrev pub shifted_row : (ℕ → ℕ) → (ℕ → ℕ) → ℕ → List ℕ → List ℕ
shifted_row f g k ss =
    let s : List ℕ = set ss (2 * k) (f (slice_index ss (2 * k))) in
    slice_set s (2 * k + 1) (g (slice_index s (2 * k + 1)))

abbrev pub shifted : (ℕ → ℕ) → (ℕ → ℕ) → ℕ → ℕ → List ℕ → List ℕ
shifted f g zero k ss = ss
shifted f g (suc n) k ss = shifted f g n (k + 1) (shifted_row f g k ss)

-- so many entries and cells more before them, or fewer
abbrev pub raised : ℕ → ℕ → ℕ → ℕ → List ℕ → List ℕ
raised de dc n k ss = shifted (λ x. x + de) (λ x. x + dc) n k ss

abbrev pub lowered : ℕ → ℕ → ℕ → ℕ → List ℕ → List ℕ
lowered de dc n k ss = shifted (λ x. x - de) (λ x. x - dc) n k ss

-- another count for the node at a place
abbrev pub counted : Place → ℕ → List ℕ → List ℕ
counted p k ns = slice_set ns (4 * p.row + 2) k

-- how many nodes come after that at a place
abbrev pub nodes_after : Place → Tables → ℕ
nodes_after p T = T.used.nodes - (p.row + 1)

-- CHANGES. The directory at a place gets one entry more, last, with that row
abbrev pub entered : Place → List ℕ → Tables → Tables
entered p row T = record {
  nodes = counted p (p.count + 1) T.nodes;
  sums = raised 1 0 (nodes_after p T) (p.row + 1) T.sums;
  entries = opened (16 * T.used.entries) (16 * (p.entries + p.count)) row T.entries;
  cells = T.cells;
  used = record { next = T.used.next; nodes = T.used.nodes; entries = T.used.entries + 1; cells = T.used.cells };
}

-- its j-th entry goes
abbrev pub left : Place → ℕ → Tables → Tables
left p j T = record {
  nodes = counted p (p.count - 1) T.nodes;
  sums = lowered 1 0 (nodes_after p T) (p.row + 1) T.sums;
  entries = closed (16 * T.used.entries) (16 * (p.entries + j)) 16 T.entries;
  cells = T.cells;
  used = record { next = T.used.next; nodes = T.used.nodes; entries = T.used.entries - 1; cells = T.used.cells };
}

-- the file at a place gets more cells, at its end
abbrev pub grown : Place → List ℕ → Tables → Tables
grown p new T = record {
  nodes = counted p (p.count + length new) T.nodes;
  sums = raised 0 (length new) (nodes_after p T) (p.row + 1) T.sums;
  entries = T.entries;
  cells = opened T.used.cells (p.cells + p.count) new T.cells;
  used = record { next = T.used.next; nodes = T.used.nodes; entries = T.used.entries; cells = T.used.cells + length new };
}

-- it keeps its first k cells only
abbrev pub cut : Place → ℕ → Tables → Tables
cut p k T = record {
  nodes = counted p k T.nodes;
  sums = lowered 0 (p.count - k) (nodes_after p T) (p.row + 1) T.sums;
  entries = T.entries;
  cells = closed T.used.cells (p.cells + k) (p.count - k) T.cells;
  used = record { next = T.used.next; nodes = T.used.nodes; entries = T.used.entries; cells = T.used.cells - (p.count - k) };
}

-- a node of a kind comes last, with the next id and nothing in it
abbrev pub added : ℕ → Tables → Tables
added kind T = record {
  nodes = opened (4 * T.used.nodes) (4 * T.used.nodes) (T.used.next ∷ kind ∷ 0 ∷ 0 ∷ []) T.nodes;
  sums = opened (2 * T.used.nodes) (2 * T.used.nodes) (T.used.entries ∷ T.used.cells ∷ []) T.sums;
  entries = T.entries;
  cells = T.cells;
  used = record { next = T.used.next + 1; nodes = T.used.nodes + 1; entries = T.used.entries; cells = T.used.cells };
}

-- the node at a place goes, with its cells: a file, or a directory without entries, of which the count is 0
abbrev pub gone : Place → Tables → Tables
gone p T = record {
  nodes = closed (4 * T.used.nodes) (4 * p.row) 4 T.nodes;
  sums = lowered 0 p.count (nodes_after p T) p.row (closed (2 * T.used.nodes) (2 * p.row) 2 T.sums);
  entries = T.entries;
  cells = closed T.used.cells p.cells p.count T.cells;
  used = record { next = T.used.next; nodes = T.used.nodes - 1; entries = T.used.entries; cells = T.used.cells - p.count };
}

-- PUT TOGETHER. A new node of a kind, named in the directory at a place
abbrev pub made_in : Place → Name → ℕ → Tables → Tables
made_in p n kind T = entered p (entry_row (record { name = n; id = T.used.next })) (added kind T)
