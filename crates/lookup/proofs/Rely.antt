-- What code may rely on where tables hold some tree.
use Rattle.std.proofs.Common.{◌≡◌, ℕ, ◌+◌, ◌*◌, ◌≤◌, Some, None, Option, IfSome, length, arith}
use Rattle.std.proofs.Math.Bridge.{le_prop}
use Rattle.std.proofs.Math.Logic.{∥∥₁_elim}
use Rattle.model.specs.Tree.{Tree}
use Rattle.model.specs.Refusals.{Limits}
use Rattle.tables.specs.Edits.{Tables}
use Rattle.tables.specs.Lookup.{row_kind, row_of, Ascends}
use Rattle.tables.proofs.Bodies.{kind_small}
use Rattle.rows.specs.Found.{found}
use Rattle.rows.specs.declared.nodes.Place.{Place}
use Rattle.lookup.specs.Found.{DirFound, FileFound}
use Rattle.lookup.specs.Views.{Sound, AnyTree}
use Rattle.lookup.proofs.Places.{bounds, ascends, stands, cells_inside}
use Rattle.lookup.proofs.Entries.{entries_inside}

module _ {T : Tables} (s : ∥ AnyTree T ∥₁) where
  -- an order that holds whatever the tree is
  any : (a b : ℕ) → ((l : Limits) (t : Tree) → Sound l T t → a ≤ b) → a ≤ b
  any a b f = ∥∥₁_elim s le_prop (λ x. f x.0 x.1.0 x.1.1)

  -- ids ascend
  pub any_ascends : Ascends T.used.nodes T.nodes
  any_ascends j k lt le = any _ _ (λ l t h. ascends h j k lt le)

  -- the row of a node that was found
  module _ (i row : ℕ) (e : found T.used.nodes (row_of i T.used.nodes T.nodes) ≡ Some row) where
    pub any_node : 4 * row + 4 ≤ length T.nodes
    any_node = any _ _ (λ l t h. omega (arith, (stands h i row e).0, (bounds h).nodes_long, h.holds.nodes_fit))

    pub any_sum : 2 * row + 2 ≤ length T.sums
    any_sum = any _ _ (λ l t h. omega (arith, (stands h i row e).0, (bounds h).sums_long, h.holds.nodes_fit))

    pub any_kind : row_kind T.nodes row ≤ 1
    any_kind = any _ _ (λ l t h. kind_small (stands h i row e).1)

  -- how far the entries and the cells of what was found reach
  pub any_entries : (i : ℕ) (r : Option Place) → ((l : Limits) (t : Tree) → Sound l T t → DirFound t i r) →
      IfSome r (λ p. 16 * (p.entries + p.count) ≤ length T.entries)
  any_entries i None f = tt
  any_entries i (Some p) f = any _ _ (λ l t h. let (s, k) = f l t h in entries_inside h s k)

  pub any_cells : (i : ℕ) (r : Option Place) → ((l : Limits) (t : Tree) → Sound l T t → FileFound t i r) →
      IfSome r (λ p. p.cells + p.count ≤ length T.cells)
  any_cells i None f = tt
  any_cells i (Some p) f = any _ _ (λ l t h. let (s, k) = f l t h in cells_inside h s k)
