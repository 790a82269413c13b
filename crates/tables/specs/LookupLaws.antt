-- WHAT IS READ OF TABLES IS THE TREE'S. Statements of laws.
use Rattle.std.specs.Prelude.{◌≡◌, ℕ, ◌+◌, ◌*◌, ◌<◌, ◌≤◌, true, ◌⊎◌, List, [], ◌∷◌, ◌++◌, length, drop, ◌≢◌}
use Rattle.model.specs.Tree.{Name, Body, Node, Tree, same, find_node, with_body, without_node, entries, put_body}
use Rattle.model.specs.Refusals.{Limits}
use Rattle.machine.specs.Tables.{name_key, node_words, sum_words, entry_words}
use Rattle.machine.specs.Fits.{every, ok_name, ok_node, rising, Fits}
use Rattle.tables.specs.Lookup.{row_id, row_of, Ascends, Place, place_at, place_of, entry_id, name_row, summed}
use Rattle.tables.specs.Edits.{Tables}
use Rattle.tables.specs.Stands.{tables_of, Holds, Stands, LookedUp, NameLookedUp, DirAt, FileAt, Readable, Bounds, Within}

-- a search for an id ends where the node stands, or after all rows; whatever words follow those of the nodes
abbrev pub NodeLookedUp : Type 0
NodeLookedUp = (ts : List Node) (x y : List ℕ) (i : ℕ) →
    LookedUp i ts (place_of i (length ts) (node_words ts ++ x) (sum_words 0 0 ts ++ y))

-- ids that ascend do so by rows
abbrev pub RowsAscend : Type 0
RowsAscend = (ts : List Node) (x : List ℕ) → rising 0 ts ≡ true → Ascends (length ts) (node_words ts ++ x)

-- where they do, a row with an id is the first one with it
abbrev pub RowHit : Type 0
RowHit = (n : ℕ) (ns : List ℕ) (i k : ℕ) → Ascends n ns → k < n → row_id ns k ≡ i → row_of i n ns ≡ k

-- and there is none where smaller ids stand before a row, and larger ones from it on
abbrev pub RowMissed : Type 0
RowMissed = (n : ℕ) (ns : List ℕ) (i at : ℕ) → ((k : ℕ) → k < at → row_id ns k < i) →
    ((k : ℕ) → at ≤ k → k < n → i < row_id ns k) → row_of i n ns ≡ n

-- the node at a place is the one that the tree finds
abbrev pub StandsFound : Type 0
StandsFound = (i : ℕ) (ts : List Node) (p : Place) (s : Stands i ts p) → find_node i ts ≡ s.body ∷ []

-- after a change it has its new body, and the other nodes are as they were
abbrev pub FoundAfter : Type 0
FoundAfter = (i : ℕ) (ts : List Node) (p : Place) → Stands i ts p → (b : Body) →
    (find_node i (with_body i b ts) ≡ b ∷ [])
    × ((k : ℕ) → (k ≢ i) → find_node k (with_body i b ts) ≡ find_node k ts)
    × ((k : ℕ) → (k ≢ i) → find_node k (without_node i ts) ≡ find_node k ts)

-- it is a directory or a file, by its kind
abbrev pub KindRead : Type 0
KindRead = (i : ℕ) (ts : List Node) (p : Place) → Stands i ts p → ((p.kind ≡ 0) × DirAt i ts p) ⊎ ((p.kind ≡ 1) × FileAt i ts p)

-- names are the same where their keys are
abbrev pub SameKeys : Type 0
SameKeys = (m n : Name) → ok_name m ≡ true → ok_name n ≡ true → same (name_key m) (name_key n) ≡ same m n

-- a search for a key ends at the entry with that name, or after all entries of the directory; whatever words follow
abbrev pub NameFound : Type 0
NameFound = (ts : List Node) (y : List ℕ) (next i : ℕ) (p : Place) (n : Name) → Stands i ts p → p.kind ≡ 0 →
    every (ok_node next) ts ≡ true → ok_name n ≡ true →
    let es : List ℕ = entry_words ts ++ y in
    let j : ℕ = name_row (name_key n) p.count p.entries es in
    NameLookedUp n (entries (find_node i ts)) j (entry_id es (p.entries + j))

-- all of this of tables that hold a tree
abbrev pub AllReadable : Type 0
AllReadable = (m room : ℕ) (t : Tree) (T : Tables) → Holds m room t T → Readable t T

-- a node stands at the row where it stood after another body was put, there or elsewhere
abbrev pub StandsAfter : Type 0
StandsAfter = (m room : ℕ) (t : Tree) (d : ℕ) (b : Body) (T : Tables) (i : ℕ) (p : Place) → Holds m room (put_body d b t) T →
    Stands i t.nodes p → Stands i (put_body d b t).nodes (place_at p.row T.nodes T.sums)

-- tables that hold a tree are its tables; and a tree that fits is held by its tables
abbrev pub HoldsIs : Type 0
HoldsIs = (m room : ℕ) (t : Tree) (T : Tables) → Holds m room t T → T ≡ tables_of m room t

abbrev pub HoldsFits : Type 0
HoldsFits = (l : Limits) (t : Tree) → Fits l t → Holds l.nodes_most l.room t (tables_of l.nodes_most l.room t)

-- how far tables that hold a tree reach, and what stands in them
abbrev pub InBounds : Type 0
InBounds = (m room : ℕ) (t : Tree) (T : Tables) → Holds m room t T → Bounds m room T

abbrev pub InRange : Type 0
InRange = (m room : ℕ) (t : Tree) (T : Tables) (i : ℕ) (p : Place) → Holds m room t T → Stands i t.nodes p → Within T p

-- sums that are made from the table of nodes are the tree's, whatever was in their table
abbrev pub SumsMade : Type 0
SumsMade = (ts : List Node) (x ws : List ℕ) → 2 * length ts ≤ length ws →
    summed (length ts) 0 0 0 (node_words ts ++ x) ws ≡ sum_words 0 0 ts ++ drop (2 * length ts) ws
