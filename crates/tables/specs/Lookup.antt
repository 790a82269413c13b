-- LOOKING INTO THE TABLES of a tree: a node by its id, what it has by its sums, a name by its key. Words alone, in the order in
-- which code reads them. Definitions only.
use Rattle.std.specs.Prelude.{ℕ, zero, suc, ◌+◌, ◌*◌, ◌<◌, Bool, cond, List, ◌==◌, nat_eq, slice_index, slice_set}
use Rattle.blocks.specs.Words.{part}
use Rattle.model.specs.Tree.{same}

-- of n rows from row k on: how many stand before the first of which p holds; all n where it holds of none
abbrev pub first_row : (ℕ → Bool) → ℕ → ℕ → ℕ
first_row p zero k = 0
first_row p (suc n) k = cond (p k) 0 (suc (first_row p n (k + 1)))

-- NODES. The words of row k
abbrev pub row_id : List ℕ → ℕ → ℕ
row_id ns k = slice_index ns (4 * k)

abbrev pub row_kind : List ℕ → ℕ → ℕ
row_kind ns k = slice_index ns (4 * k + 1)

abbrev pub row_count : List ℕ → ℕ → ℕ
row_count ns k = slice_index ns (4 * k + 2)

-- where its entries and its cells begin, in rows of entries and in cells
abbrev pub row_entries : List ℕ → ℕ → ℕ
row_entries ss k = slice_index ss (2 * k)

abbrev pub row_cells : List ℕ → ℕ → ℕ
row_cells ss k = slice_index ss (2 * k + 1)

-- the first of n rows with an id, or n
abbrev pub row_of : ℕ → ℕ → List ℕ → ℕ
row_of i n ns = first_row (λ k. nat_eq i (row_id ns k)) n 0

-- do the ids of n rows ascend?
abbrev pub Ascends : ℕ → List ℕ → Type 0
Ascends n ns = (j k : ℕ) → j < k → k < n → row_id ns j < row_id ns k

-- all that two tables say of a node
pub record Place : Type 0 where
  pub row : ℕ
  pub kind : ℕ
  pub count : ℕ
  pub entries : ℕ
  pub cells : ℕ

abbrev pub place_at : ℕ → List ℕ → List ℕ → Place
place_at k ns ss =
    record { row = k; kind = row_kind ns k; count = row_count ns k; entries = row_entries ss k; cells = row_cells ss k }

abbrev pub place_of : ℕ → ℕ → List ℕ → List ℕ → Place
place_of i n ns ss = place_at (row_of i n ns) ns ss

-- ENTRIES. The id and the key, 9 words, of row k
abbrev pub entry_id : List ℕ → ℕ → ℕ
entry_id es k = slice_index es (16 * k)

abbrev pub entry_key : List ℕ → ℕ → List ℕ
entry_key es k = part (16 * k + 1) 9 es

-- the first of n rows from row k on with a key, counted from there; or n
abbrev pub name_row : List ℕ → ℕ → ℕ → List ℕ → ℕ
name_row key n k es = first_row (λ j. same key (entry_key es j)) n k

-- SUMS, made from the table of nodes: of n rows from row k on, where e entries and c cells come before
abbrev pub summed : ℕ → ℕ → ℕ → ℕ → List ℕ → List ℕ → List ℕ
summed zero k e c ns ss = ss
summed (suc n) k e c ns ss =
    summed n (k + 1) (e + cond (row_kind ns k == 0) (row_count ns k) 0) (c + cond (row_kind ns k == 0) 0 (row_count ns k)) ns
    (slice_set (slice_set ss (2 * k) e) (2 * k + 1) c)
