use Rattle.std.proofs.Common.{[], ◌∷◌, refl, lit≤}
use Rattle.model.specs.Tree.{dir, file, find_node, all_cells, entries, cells}
use Rattle.machine.specs.State.{entry_count}
use Rattle.edit_tests.specs.Moments.{entry, node, t_dir}
use Rattle.edit_tests.proofs.Small.{held}
use Rattle.edit_tests.proofs.steps.make_inner.Goals as goal

pub make-next-requires-clause-held : goal.make-next-requires-clause-held
unfolding find_node all_cells entries cells entry_count
make-next-requires-clause-held c = (
  c.tables.result.cells.now,
  held t_dir 2 (dir ([])) (node 0 (dir (entry 97 1 ∷ entry 100 2 ∷ [])) ∷ node 1 (file ([])) ∷ []) [] refl refl
      c.tables.ensures refl (lit≤ tt) (lit≤ tt) (lit≤ tt),
)
