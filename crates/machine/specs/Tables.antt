-- A TREE AS TABLES OF WORDS, the same in memory and on the disk, and the tree that tables stand for. Definitions only.
--
--   nodes     4 words each, in the tree's order: id, kind (0 a directory, 1 a file), count of its entries or cells, 0
--   sums      2 words a node: where its entries begin in the table of entries, and its cells in that of cells
--   entries   16 words each, grouped by directory: id, length of the name, the name's bytes in 8 words, 6 zeros
--   cells     1 word each, grouped by file: the data block's number
use Rattle.std.specs.Prelude.{ℕ, zero, suc, ◌+◌, ◌*◌, cond, List, [], ◌∷◌, ◌++◌, length, take, drop, ◌==◌, slice_index}
use Rattle.std.specs.List.{flat_map}
use Rattle.blocks.specs.Words.{bytes_of, chunks}
use Rattle.model.specs.Tree.{Name, Entry, Body, dir, file, Node, Tree}

abbrev pub kind_of : Body → ℕ
kind_of (dir es) = 0
kind_of (file cs) = 1

abbrev pub entries_in : Body → List Entry
entries_in (dir es) = es
entries_in (file cs) = []

abbrev pub cells_in : Body → List ℕ
cells_in (dir es) = []
cells_in (file cs) = cs

abbrev pub count_of : Body → ℕ
count_of (dir es) = length es
count_of (file cs) = length cs

-- ROWS. A node's; a name as its length and 8 words, by which names are compared; an entry's
abbrev pub node_row : Node → List ℕ
node_row t = t.id ∷ kind_of t.body ∷ count_of t.body ∷ 0 ∷ []

abbrev pub name_key : Name → List ℕ
name_key n = length n ∷ chunks 8 0 n

abbrev pub entry_row : Entry → List ℕ
entry_row e = e.id ∷ (name_key e.name ++ (0 ∷ 0 ∷ 0 ∷ 0 ∷ 0 ∷ 0 ∷ []))

-- TABLES
abbrev pub node_words : List Node → List ℕ
node_words ts = flat_map node_row ts

abbrev pub node_entries : Node → List ℕ
node_entries t = flat_map entry_row (entries_in t.body)

abbrev pub entry_words : List Node → List ℕ
entry_words ts = flat_map node_entries ts

abbrev pub node_cells : Node → List ℕ
node_cells t = cells_in t.body

abbrev pub cell_words : List Node → List ℕ
cell_words ts = flat_map node_cells ts

-- running sums, from a first entry and a first cell on
abbrev pub sum_words : ℕ → ℕ → List Node → List ℕ
sum_words e c [] = []
sum_words e c (t ∷ ts) = e ∷ c ∷ sum_words (e + length (entries_in t.body)) (c + length (cells_in t.body)) ts

-- READ BACK. An entry from its row; so many entries; so many nodes, each with what it has of the other two tables
abbrev pub entry_from : List ℕ → Entry
entry_from ws = record { name = take (slice_index ws 1) (flat_map (bytes_of 8) (take 8 (drop 2 ws))); id = slice_index ws 0 }

abbrev pub entries_from : ℕ → List ℕ → List Entry
entries_from zero ws = []
entries_from (suc k) ws = entry_from ws ∷ entries_from k (drop 16 ws)

abbrev pub nodes_from : ℕ → List ℕ → List ℕ → List ℕ → List Node
nodes_from zero ns es cs = []
nodes_from (suc k) ns es cs =
    cond (slice_index ns 1 == 0)
    (record { id = slice_index ns 0; body = dir (entries_from (slice_index ns 2) es) } ∷ nodes_from k (drop 4 ns) (drop (16 * slice_index ns 2) es)
    cs)
    (record { id = slice_index ns 0; body = file (take (slice_index ns 2) cs) } ∷ nodes_from k (drop 4 ns) es (drop (slice_index ns 2) cs))

abbrev pub tree_from : ℕ → ℕ → List ℕ → List ℕ → List ℕ → Tree
tree_from next n ns es cs = record { nodes = nodes_from n ns es cs; next = next }
