use Rattle.std.proofs.Common.{[], ◌∷◌, refl, lit≤}
use Rattle.model.specs.Tree.{dir, file, find_node, all_cells, entries, cells}
use Rattle.machine.specs.State.{entry_count}
use Rattle.edit_tests.specs.Moments.{entry, node, t_inner}
use Rattle.edit_tests.proofs.Small.{held}
use Rattle.edit_tests.proofs.steps.grow_first.Goals as goal

pub lengthen-next-requires-clause-held : goal.lengthen-next-requires-clause-held
unfolding find_node all_cells entries cells entry_count
lengthen-next-requires-clause-held c = (
  c.tables.result.entries.now,
  held t_inner 1 (file ([])) (node 0 (dir (entry 97 1 ∷ entry 100 2 ∷ [])) ∷ []) (node 2 (dir (entry 98 3 ∷ [])) ∷ node 3 (file ([])) ∷ []) refl refl
      c.tables.ensures refl (lit≤ tt) (lit≤ tt) (lit≤ tt),
)
