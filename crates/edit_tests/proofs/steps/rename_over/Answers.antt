use Rattle.std.proofs.Common.{[], ◌∷◌, refl, lit≤}
use Rattle.model.specs.Tree.{dir, file, find_node, all_cells, entries, cells}
use Rattle.model.specs.Tree.{find_name, same, without_any, without_name, with_body, without_node}
use Rattle.machine.specs.State.{entry_count}
use Rattle.edit_tests.specs.Moments.{entry, node, t_short, t_without}
use Rattle.edit_tests.proofs.Small.{held, at_row, entry_stands}
use Rattle.edit_tests.proofs.steps.rename_over.Goals as goal

pub rename-next-requires-clause-given : goal.rename-next-requires-clause-given
unfolding find_node all_cells entries cells entry_count find_name same without_any without_name with_body without_node
rename-next-requires-clause-given c =
    let root = node 0 (dir (entry 100 2 ∷ [])) in
    let inner = node 2 (dir (entry 98 3 ∷ [])) in
    let last = node 3 (file (7 ∷ 8 ∷ 9 ∷ [])) ∷ [] in (
      c.tables.result.cells.now,
      record {
        dir = held t_without 2 inner.body (root ∷ []) last refl refl c.tables.ensures refl (lit≤ tt) (lit≤ tt) (lit≤ tt);
        name = 98 ∷ [];
        entry = entry_stands (entry 98 3) [] [] refl;
        to = 0;
        at = at_row t_without 0 root.body [] (inner ∷ last) refl refl;
        to_dir = refl;
        whole = t_short;
        rest = refl;
      },
    )
