use Rattle.std.proofs.Common.{[], ◌∷◌, refl, lit≤}
use Rattle.model.specs.Tree.{dir, file, find_node, all_cells, entries, cells, find_name}
use Rattle.machine.specs.State.{entry_count}
use Rattle.edit_tests.specs.Moments.{entry, node, t_short}
use Rattle.edit_tests.proofs.Small.{held, at_row, entry_stands}
use Rattle.edit_tests.proofs.steps.remove_first.Goals as goal

pub remove-next-requires-clause-given : goal.remove-next-requires-clause-given
unfolding find_node all_cells entries cells entry_count find_name
remove-next-requires-clause-given c =
    let root = node 0 (dir (entry 97 1 ∷ entry 100 2 ∷ [])) in
    let others = node 2 (dir (entry 98 3 ∷ [])) ∷ node 3 (file (7 ∷ 8 ∷ 9 ∷ [])) ∷ [] in
    record {
      dir = held t_short 0 root.body [] (node 1 (file (5 ∷ [])) ∷ others) refl refl
          c.tables.ensures refl (lit≤ tt) (lit≤ tt) (lit≤ tt);
      name = 97 ∷ [];
      entry = entry_stands (entry 97 1) [] (entry 100 2 ∷ []) refl;
      node = 1;
      at = at_row t_short 1 (file (5 ∷ [])) (root ∷ []) others refl refl;
      empty = refl;
    }
