use Rattle.std.proofs.Common.{[], ◌∷◌, refl, lit≤}
use Rattle.model.specs.Tree.{dir, file, find_node, all_cells, entries, cells}
use Rattle.machine.specs.State.{entry_count}
use Rattle.edit_tests.specs.Moments.{entry, node, t_long}
use Rattle.edit_tests.proofs.Small.{held}
use Rattle.edit_tests.proofs.steps.grow_last.Goals as goal

pub lengthen-next-requires-clause-held : goal.lengthen-next-requires-clause-held
unfolding find_node all_cells entries cells entry_count
lengthen-next-requires-clause-held c = (
  c.tables.result.entries.now,
  held t_long 3 (file ([])) (node 0 (dir (entry 97 1 ∷ entry 100 2 ∷ [])) ∷ node 1 (file (5 ∷ 6 ∷ [])) ∷ node 2 (dir (entry 98 3 ∷ [])) ∷ []) [] refl refl
      c.tables.ensures refl (lit≤ tt) (lit≤ tt) (lit≤ tt),
)
