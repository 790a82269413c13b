-- THE BLOCKS THAT A TREE HAS, as bits, after a change of one node: a directory changes none, cells that come are marked, and
-- those that go are unmarked, as no cell is there twice. A definition and statements of laws.
use Rattle.std.specs.Prelude.{◌≡◌, ℕ, ◌≤◌, Bool, false, List, [], ◌∷◌, ◌++◌, take, drop, slice_set}
use Rattle.model.specs.Tree.{Entry, Body, dir, file, Tree, body_of, cells, all_cells, put_body, drop_node}
use Rattle.model.specs.Refusals.{Limits}
use Rattle.model.specs.Laws.{cell_twice}
use Rattle.machine.specs.State.{marked, own}
use Rattle.machine.specs.Tables.{cells_in}
use Rattle.tables.specs.Lookup.{Place}
use Rattle.tables.specs.Stands.{Stands}

-- bits cleared, one after another
unfoldable pub unmarked : List ℕ → List Bool → List Bool
unmarked [] bs = bs
unmarked (k ∷ ks) bs = unmarked ks (slice_set bs k false)

abbrev pub OwnDir : Type 0
OwnDir = (l : Limits) (t : Tree) (i : ℕ) (p : Place) → Stands i t.nodes p → p.kind ≡ 0 → (es : List Entry) →
    own l (put_body i (dir es) t) ≡ own l t

abbrev pub OwnAdded : Type 0
OwnAdded = (l : Limits) (t : Tree) (k : ℕ) (b : Body) → cells_in b ≡ [] →
    own l (record { nodes = t.nodes ++ (record { id = t.next; body = b } ∷ []); next = k }) ≡ own l t

abbrev pub OwnGrown : Type 0
OwnGrown = (l : Limits) (t : Tree) (i : ℕ) (p : Place) → Stands i t.nodes p → p.kind ≡ 1 → (n : ℕ) (new : List ℕ) → p.count ≤ n →
    own l (put_body i (file (take n (cells (body_of t i)) ++ new)) t) ≡ marked new (own l t)

abbrev pub OwnCut : Type 0
OwnCut = (l : Limits) (t : Tree) (i : ℕ) (p : Place) → Stands i t.nodes p → cell_twice (all_cells t.nodes) ≡ false → (n : ℕ) →
    own l (put_body i (file (take n (cells (body_of t i)) ++ [])) t) ≡ unmarked (drop n (cells (body_of t i))) (own l t)

abbrev pub OwnGone : Type 0
OwnGone = (l : Limits) (t : Tree) (i : ℕ) (p : Place) → Stands i t.nodes p → cell_twice (all_cells t.nodes) ≡ false →
    own l (drop_node i t) ≡ unmarked (cells (body_of t i)) (own l t)
