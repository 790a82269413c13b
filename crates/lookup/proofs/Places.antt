-- Nodes looked up in tables that hold a tree: where a search ends there is the node, or it is not there.
use Rattle.std.proofs.Common.{Some, None}
use Rattle.rows.specs.Found.{found}
use Rattle.std.proofs.Common.{◌≡◌, ℕ, ◌+◌, ◌<◌, ◌≤◌, false, [], length, subst, inl, inr, arith}
use Rattle.model.specs.Tree.{Tree, body_of, is_dir, is_file}
use Rattle.model.specs.Refusals.{Limits}
use Rattle.tables.specs.Lookup.{row_of, Ascends, Place, place_at}
use Rattle.tables.specs.Edits.{Tables}
use Rattle.tables.specs.Stands.{Stands, LookedUp, Readable, Bounds, Within}
use Rattle.tables.proofs.Held.{readable}
use Rattle.tables.proofs.Ranges.{in_bounds, in_range}
use Rattle.tables.proofs.Bodies.{dir_at, file_at}
use Rattle.lookup.specs.Views.{Sound}
use Rattle.std.proofs.lemmas.Bool.Decides.{nat_tests}

-- what a search that ended at the k-th of n rows, or at n, has found
pub found_some : (n k j : ℕ) → found n k ≡ Some j → (j < n) × (k ≡ j)
found_some n k j e = grind (arith, nat_tests)

pub found_none : (n k : ℕ) → found n k ≡ None → n ≤ k
found_none n k e = grind (arith, nat_tests)

module _ {l : Limits} {T : Tables} {t : Tree} (h : Sound l T t) where
  pub read : Readable t T
  read = readable l.nodes_most l.room t T h.holds

  pub bounds : Bounds l.nodes_most l.room T
  bounds = in_bounds l.nodes_most l.room t T h.holds

  pub within : (i : ℕ) (p : Place) → Stands i t.nodes p → Within T p
  within i p s = in_range l.nodes_most l.room t T i p h.holds s

  pub ascends : Ascends T.used.nodes T.nodes
  ascends = read.ascends h.fits.ascend

  -- a search for an id that ended at a row, or at none
  module _ (i : ℕ) where
    pub stands : (row : ℕ) → found T.used.nodes (row_of i T.used.nodes T.nodes) ≡ Some row →
        (row < T.used.nodes) × Stands i t.nodes (place_at row T.nodes T.sums)
    stands row e =
        let (lt, is) = found_some T.used.nodes (row_of i T.used.nodes T.nodes) row e in
        elim (subst (λ k. LookedUp i t.nodes (place_at k T.nodes T.sums)) is (read.node i)) [
          | inl a ↦ absurd (omega (arith, a.0, h.holds.nodes_used))
          | inr b ↦ (lt, b.1)
        ]

    pub missing : found T.used.nodes (row_of i T.used.nodes T.nodes) ≡ None → body_of t i ≡ []
    missing e =
        let le = found_none T.used.nodes (row_of i T.used.nodes T.nodes) e in
        elim (read.node i) [
          | inl a ↦ a.1
          | inr b ↦ absurd (omega (arith, b.0, h.holds.nodes_used))
        ]

  pub cells_inside : {i : ℕ} {p : Place} → Stands i t.nodes p → p.kind ≡ 1 → p.cells + p.count ≤ length T.cells
  cells_inside {i = i} {p = p} s k = omega (arith, (within i p s).file_cells k, bounds.cells_long, h.holds.cells_fit)

-- no node, or one of the other kind
pub no_dir : (t : Tree) (i : ℕ) → body_of t i ≡ [] → is_dir (body_of t i) ≡ false
unfolding is_dir
no_dir t i e = rw e

pub no_file : (t : Tree) (i : ℕ) → body_of t i ≡ [] → is_file (body_of t i) ≡ false
unfolding is_file
no_file t i e = rw e

pub not_dir : (t : Tree) (i : ℕ) (p : Place) → Stands i t.nodes p → p.kind ≡ 1 → is_dir (body_of t i) ≡ false
not_dir t i p s e = (file_at s e).no_dir

pub not_file : (t : Tree) (i : ℕ) (p : Place) → Stands i t.nodes p → p.kind ≡ 0 → is_file (body_of t i) ≡ false
not_file t i p s e = (dir_at s e).no_file
