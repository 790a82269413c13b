-- TABLES THAT HOLD A TREE HOLD IT AFTER A CHANGE, too: each table, and how much of it is in use. Statements of laws.
use Rattle.std.specs.Prelude.{◌≡◌, ℕ, suc, ◌+◌, ◌*◌, ◌<◌, ◌≤◌, List, [], ◌∷◌, ◌++◌, length, take}
use Rattle.blocks.specs.Words.{closed}
use Rattle.model.specs.Tree.{Name, Body, file, Tree, body_of, entries, cells, named, put_body, put_entry, drop_entry, drop_node}
use Rattle.model.specs.Tree.{made, removed, without_any, moved}
use Rattle.machine.specs.Tables.{kind_of, entries_in, cells_in, entry_row}
use Rattle.tables.specs.Lookup.{Place}
use Rattle.tables.specs.Edits.{Tables, lowered, nodes_after, entered, left, grown, cut, added, gone, made_in}
use Rattle.tables.specs.Stands.{Holds, Stands, EntryStands}

-- what the laws of one node are about: tables that hold a tree, and the place of the node
abbrev pub HeldAt : ℕ → ℕ → Tree → Tables → ℕ → Place → Type 0
HeldAt m room t T i p = Holds m room t T × Stands i t.nodes p

-- ENTRIES. One more, last in a directory
abbrev pub PutEntry : Type 0
PutEntry = (m room : ℕ) (t : Tree) (T : Tables) (d : ℕ) (p : Place) → HeldAt m room t T d p → p.kind ≡ 0 → T.used.entries < m →
    (n : Name) (i : ℕ) → Holds m room (put_entry d n i t) (entered p (entry_row (record { name = n; id = i })) T)

-- one fewer, by its name
abbrev pub DropEntry : Type 0
DropEntry = (m room : ℕ) (t : Tree) (T : Tables) (d : ℕ) (p : Place) → HeldAt m room t T d p → p.kind ≡ 0 →
    (n : Name) (j : ℕ) → EntryStands n (entries (body_of t d)) j → Holds m room (drop_entry d n t) (left p j T)

-- NODES. One more, last, with nothing in it
abbrev pub AddNode : Type 0
AddNode = (m room : ℕ) (t : Tree) (T : Tables) → Holds m room t T → T.used.nodes < m → (b : Body) → entries_in b ≡ [] →
    cells_in b ≡ [] →
    Holds m room (record { nodes = t.nodes ++ (record { id = t.next; body = b } ∷ []); next = suc t.next }) (added (kind_of b) T)

-- one fewer, without entries
abbrev pub DropNode : Type 0
DropNode = (m room : ℕ) (t : Tree) (T : Tables) (i : ℕ) (p : Place) → HeldAt m room t T i p → entries (body_of t i) ≡ [] →
    Holds m room (drop_node i t) (gone p T)

-- its sums may be lowered before their row goes
abbrev pub DropSums : Type 0
DropSums = (m room : ℕ) (t : Tree) (T : Tables) (i : ℕ) (p : Place) → HeldAt m room t T i p → entries (body_of t i) ≡ [] →
    closed (2 * T.used.nodes) (2 * p.row) 2 (lowered 0 p.count (nodes_after p T) (p.row + 1) T.sums) ≡ (gone p T).sums

-- CELLS. A file gets more, or keeps its first n, as a resize to n places does
abbrev pub Grow : Type 0
Grow = (m room : ℕ) (t : Tree) (T : Tables) (i : ℕ) (p : Place) → HeldAt m room t T i p → p.kind ≡ 1 →
    (n : ℕ) (new : List ℕ) → p.count ≤ n → T.used.cells + length new ≤ room →
    Holds m room (put_body i (file (take n (cells (body_of t i)) ++ new)) t) (grown p new T)

abbrev pub Cut : Type 0
Cut = (m room : ℕ) (t : Tree) (T : Tables) (i : ℕ) (p : Place) → HeldAt m room t T i p → p.kind ≡ 1 →
    (n : ℕ) → n ≤ p.count → Holds m room (put_body i (file (take n (cells (body_of t i)) ++ [])) t) (cut p n T)

-- PUT TOGETHER. A node made
abbrev pub Make : Type 0
Make = (m room : ℕ) (t : Tree) (T : Tables) (d : ℕ) (p : Place) → HeldAt m room t T d p → p.kind ≡ 0 → T.used.nodes < m →
    T.used.entries < m → (n : Name) (b : Body) → entries_in b ≡ [] → cells_in b ≡ [] →
    Holds m room (made d n b t) (made_in p n (kind_of b) T)

-- a node removed, of which the place is read after its entry is gone
abbrev pub Remove : Type 0
Remove = (m room : ℕ) (t : Tree) (T : Tables) (d : ℕ) (p : Place) → HeldAt m room t T d p → p.kind ≡ 0 →
    (n : Name) (j i : ℕ) (q : Place) → EntryStands n (entries (body_of t d)) j → entries (body_of t i) ≡ [] →
    Stands i (drop_entry d n t).nodes q → Holds m room (removed d n i t) (gone q (left p j T))

-- a node renamed, from tables that hold the tree without what had the new name; the second place is read after the entry is gone
abbrev pub Rename : Type 0
Rename = (m room : ℕ) (t s : Tree) (T : Tables) (d : ℕ) (p : Place) (n : Name) (e : ℕ) (q : Place) (k : Name) (i j : ℕ) →
    without_any e k (named t e k) t ≡ s → HeldAt m room s T d p → p.kind ≡ 0 → EntryStands n (entries (body_of s d)) j →
    Stands e (drop_entry d n s).nodes q → q.kind ≡ 0 →
    Holds m room (moved d n e k i t) (entered q (entry_row (record { name = k; id = i })) (left p j T))
