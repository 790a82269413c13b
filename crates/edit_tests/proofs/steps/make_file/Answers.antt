use Rattle.std.proofs.Common.{[], refl, lit≤}
use Rattle.model.specs.Tree.{dir, find_node, all_cells, entries, cells}
use Rattle.machine.specs.State.{entry_count}
use Rattle.edit_tests.specs.Moments.{t_new}
use Rattle.edit_tests.proofs.Small.{held}
use Rattle.edit_tests.proofs.steps.make_file.Goals as goal

pub make-next-requires-clause-held : goal.make-next-requires-clause-held
unfolding find_node all_cells entries cells entry_count
make-next-requires-clause-held c = (
  c.tables.result.cells.now,
  held t_new 0 (dir ([])) [] [] refl refl
      c.tables.ensures refl (lit≤ tt) (lit≤ tt) (lit≤ tt),
)
