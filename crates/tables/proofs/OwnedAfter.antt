-- Which data blocks a tree has after its operations: a node made or renamed changes none, and with a node that is removed its own go.
use Rattle.std.proofs.Common.{◌≡◌, ℕ, suc, false, [], ◌∷◌, ◌++◌, ap, ◌∙◌}
use Rattle.model.specs.Tree.{Name, Body, dir, Tree, body_of, entries, cells, all_cells, without_name, drop_entry, put_entry}
use Rattle.model.specs.Tree.{made, removed}
use Rattle.model.specs.Refusals.{Limits}
use Rattle.model.specs.Laws.{cell_twice}
use Rattle.model_facts.proofs.Nodes.{find_with_other}
use Rattle.machine.specs.State.{own}
use Rattle.machine.specs.Tables.{cells_in}
use Rattle.tables.specs.Lookup.{Place}
use Rattle.tables.specs.Edits.{Tables}
use Rattle.tables.specs.Own.{unmarked}
use Rattle.tables.specs.Stands.{Holds, Stands, EntryStands}
use Rattle.tables.proofs.Operations.{stands_before, not_empty}
use Rattle.tables.proofs.Owned.{own_dir, own_gone, own_added, dir_cells}

module _ (l : Limits) (t : Tree) (d : ℕ) {p : Place} (s : Stands d t.nodes p) (kind : p.kind ≡ 0) where
  pub own_made : (n : Name) (b : Body) → cells_in b ≡ [] → own l (made d n b t) ≡ own l t
  own_made n b none =
      own_dir l (record { nodes = t.nodes ++ (record { id = t.next; body = b } ∷ []); next = suc t.next })
      (stands_before (record { id = t.next; body = b }) s) kind _
      ∙ own_added l t (suc t.next) b none

  -- an entry goes, and the directory, there or elsewhere, gets one
  pub own_moved : (n : Name) (e : ℕ) (m : Name) (i : ℕ) {q : Place} → Stands e (drop_entry d n t).nodes q → q.kind ≡ 0 →
      own l (put_entry e m i (drop_entry d n t)) ≡ own l t
  own_moved n e m i at to = own_dir l (drop_entry d n t) at to _ ∙ own_dir l t s kind _

  -- an entry goes, and the node without entries that it named
  pub own_removed : {mm room : ℕ} {T : Tables} → Holds mm room t T → (n : Name) (j i : ℕ) {q : Place} → EntryStands n (entries (body_of t d)) j →
      entries (body_of t i) ≡ [] → Stands i (drop_entry d n t).nodes q → cell_twice (all_cells t.nodes) ≡ false →
      own l (removed d n i t) ≡ unmarked (cells (body_of t i)) (own l t)
  own_removed h n j i a none at once =
      let u : Tree = drop_entry d n t in
      own_gone l u at (ap cell_twice (dir_cells l t s kind _) ∙ once)
      ∙ (ap (λ bs. unmarked (cells bs) (own l u))
      (find_with_other i d (dir (without_name n (entries (body_of t d)))) t.nodes (not_empty h s n j i a none))
      ∙ ap (unmarked (cells (body_of t i))) (own_dir l t s kind _))
