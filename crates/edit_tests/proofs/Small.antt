-- The tables of a small tree hold it, and a node of it stands in them after those before it.
use Rattle.std.proofs.Common.{◌≡◌, ℕ, ◌≤◌, List, [], ◌∷◌, ◌++◌, length, sym, refl, ◌∙◌, subst}
use Rattle.model.specs.Tree.{Entry, Body, Node, Tree, find_node, find_name, all_cells}
use Rattle.machine.specs.State.{entry_count}
use Rattle.machine.specs.Tables.{kind_of, count_of}
use Rattle.tables.specs.Lookup.{Place}
use Rattle.tables.specs.Stands.{tables_of, Holds, Stands, EntryStands}
use Rattle.memory.specs.declared.newest.Tables.{Tables}
use Rattle.memory.specs.Lent.{tables_in}
use Rattle.change.specs.Given.{AtRow, Held}
use Rattle.edit_tests.specs.declared.moments.Moment.{Moment}
use Rattle.edit_tests.specs.Lends.{words, Lends}
use Rattle.edit_tests.specs.Moments.{node}

-- its own tables, with room for four nodes and six cells
pub small : (t : Tree) → length t.nodes ≤ 4 → entry_count t.nodes ≤ 4 → length (all_cells t.nodes) ≤ 6 →
    Holds 4 6 t (tables_of 4 6 t)
small t few named room = record {
  nodes = refl;
  sums = refl;
  entries = refl;
  cells = refl;
  next_id = refl;
  nodes_used = refl;
  entries_used = refl;
  cells_used = refl;
  nodes_fit = few;
  entries_fit = named;
  cells_fit = room;
}

-- lent words of a moment are that moment's
pub lent : {m : Moment} {T : Tables} → Lends m T → tables_in T m.used ≡ words m
lent l = let n = l.nodes in let s = l.sums in let e = l.entries in let c = l.cells in cc

-- where a node with a body stands after others
abbrev pub place_after : List Node → Body → Place
place_after pre b =
    record { row = length pre; kind = kind_of b; count = count_of b; entries = entry_count pre; cells = length (all_cells pre) }

module _ (t : Tree) (i : ℕ) (b : Body) (pre post : List Node) (whole : t.nodes ≡ pre ++ (node i b ∷ post))
    (first : find_node i pre ≡ []) where
  pub stands : Stands i t.nodes (place_after pre b)
  stands = record {
    pre = pre;
    body = b;
    post = post;
    whole = whole;
    first = first;
    row = refl;
    kind = refl;
    count = refl;
    entries = refl;
    cells = refl;
  }

  abbrev pub at_row : AtRow i t (length pre)
  at_row = record { place = place_after pre b; stands = stands; at = refl }

  -- it stands in tables that a moment of that tree lent
  abbrev pub held : {m : Moment} {T : Tables} → Lends m T → words m ≡ tables_of 4 6 t →
      length t.nodes ≤ 4 → entry_count t.nodes ≤ 4 → length (all_cells t.nodes) ≤ 6 → Held (tables_in T m.used) (place_after pre b)
  held l e few named room = record {
    most = 4;
    room = 6;
    tree = t;
    id = i;
    holds = subst (Holds 4 6 t) (sym (lent l ∙ e)) (small t few named room);
    stands = stands;
  }

pub entry_stands : (e : Entry) (pre post : List Entry) → find_name e.name pre ≡ [] → EntryStands e.name (pre ++ (e ∷ post)) (length pre)
entry_stands e pre post first =
    record { pre = pre; entry = e; post = post; whole = refl; first = first; named = refl; at = refl }
