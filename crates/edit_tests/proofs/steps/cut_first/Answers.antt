use Rattle.std.proofs.Common.{[], ◌∷◌, refl, lit≤}
use Rattle.model.specs.Tree.{dir, file, find_node, all_cells, entries, cells}
use Rattle.machine.specs.State.{entry_count}
use Rattle.edit_tests.specs.Moments.{entry, node, t_both}
use Rattle.edit_tests.proofs.Small.{held}
use Rattle.edit_tests.proofs.steps.cut_first.Goals as goal

pub shorten-next-requires-clause-held : goal.shorten-next-requires-clause-held
unfolding find_node all_cells entries cells entry_count
shorten-next-requires-clause-held c = (
  c.tables.result.entries.now,
  held t_both 1 (file (5 ∷ 6 ∷ [])) (node 0 (dir (entry 97 1 ∷ entry 100 2 ∷ [])) ∷ []) (node 2 (dir (entry 98 3 ∷ [])) ∷ node 3 (file (7 ∷ 8 ∷ 9 ∷ [])) ∷ []) refl refl
      c.tables.ensures refl (lit≤ tt) (lit≤ tt) (lit≤ tt),
)
