-- Law 15: once a file and the tree were synced, each place of the file has what it had then or something written to it since,
-- for as long as the file is there and was not made too short.
use Rattle.std.proofs.Common.{◌≡◌, ℕ, ◌<◌, Bool, true, false, List, [], ◌∷◌, ◌++◌, length, get_or, sym, refl, ap, ◌∙◌, subst, ap₂, inl, inr, le_trans, le_of_eq, arith}
use Rattle.std.proofs.lemmas.Bool.{cases_eq, cases_lt, or_parts}
use Rattle.std.proofs.lemmas.Bool.Decides.{nat_tests}
use Rattle.model.specs.Tree.{body_of, cells, Node, find_node, is_file}
use Rattle.model.specs.Calls.{Block, Call, sync_file, sync_tree}
use Rattle.model.specs.Refusals.{Limits, refusal_by}
use Rattle.model.specs.Fs.{Fs, empty_cell, kept_all, cell_at, after, lost, turned, with_cells, changed}
use Rattle.model.specs.World.{Happening}
use Rattle.model.specs.Promise.{Leads, Explains, at_first, told, cut_late, cut_early, gone}
use Rattle.model.specs.Laws.{here, Among, writes_by, writes, cuts_off, cut_off, OldOrWritten, FileLasts}
use Rattle.model_facts.proofs.Cells.{length-chosen, length-kept_all, now_all}
use Rattle.model_facts.proofs.Nodes.{file_some}
use Rattle.laws.proofs.Each.{more, Each, each_nth, older_step, cells_step, newest, no_more}
use Rattle.laws.proofs.Apart.{apart, Apart}
use Rattle.laws.proofs.Owned.{Owned, owned_next}
use Rattle.laws.proofs.Names.{Well}
use Rattle.laws.proofs.Reach.{well}
use Rattle.laws.proofs.Refused.{done_since}
use Rattle.laws.proofs.Kept.{all_here}
use Rattle.laws.proofs.Steps.{step, leads_on}
use Rattle.laws.proofs.Sound.{id_found}
use Rattle.laws.proofs.Places.{in_range, own_cell}
use Rattle.laws.proofs.Blocks.{Amid, among_more, blocks_at, blocks_lost, blocks_step}

-- what holds from the syncs on: the place has its cell, and that has or may have only what it had first or what was written
record Lasting (i o c : ℕ) (first : Block) (ws : List Block) (s : Fs) : Type 0 where
  trees : Each (λ t. Owned i o c t.next t.nodes) (s.tree ∷ s.older)
  in_cells : c < length s.cells
  only : Amid (blocks_at s.cells c) (first ∷ ws)

module _ (l : Limits) (i o c : ℕ) (first : Block) where
  called : (ws : List Block) (s : Fs) (call : Call) → Well s.tree → cuts_off i o call ≡ false → Lasting i o c first ws s →
      Lasting i o c first (writes_by i o call ++ ws) (after l s call)
  called ws s call w off a =
      let r = step l s call in
      let at : Owned i o c s.tree.next s.tree.nodes = newest a.trees in
      record {
        trees = more (owned_next l i o c s (after l s call) call r w off a.in_cells at) (older_step r a.trees);
        in_cells = le_trans a.in_cells (cells_step r);
        only = blocks_step l i o c first ws s at a.in_cells a.only (after l s call) call r;
      }

  without_power : (ws : List Block) (s : Fs) (n : ℕ) (g : ℕ → ℕ) → Lasting i o c first ws s → Lasting i o c first ws (lost n g s)
  without_power ws s n g a = record {
    trees = more (each_nth s.tree n (newest a.trees) a.trees) no_more;
    in_cells = rw (length-chosen g 0 s.cells) a.in_cells;
    only = λ b m. a.only b (blocks_lost g 0 s.cells c b m);
  }

  not_called : (ws xs : List Block) (s : Fs) → Lasting i o c first ws s → Lasting i o c first (xs ++ ws) s
  not_called ws xs s a = record { trees = a.trees; in_cells = a.in_cells; only = λ b m. among_more b first xs ws (a.only b m) }

  -- over whole histories
  lasting : (v : Fs) (past : List Happening) → Explains l past v → Lasting i o c first [] v →
      (hs : List Happening) (s : Fs) → Leads l v hs s → cut_off i o hs ≡ false → Lasting i o c first (writes i o hs) s
  unfolding writes cut_off
  lasting v past e a _ _ at_first off = a
  lasting v past e a _ _ (told {hs} {s} call r) off =
      let (x, y) = or_parts _ _ off in
      called (writes i o hs) s call (well l (hs ++ past) s (leads_on e r)) x (lasting v past e a hs s r y)
  lasting v past e a _ _ (cut_late {hs} {s} call n g r) off =
      let (x, y) = or_parts _ _ off in
      without_power _ _ n g (called (writes i o hs) s call (well l (hs ++ past) s (leads_on e r)) x (lasting v past e a hs s r y))
  lasting v past e a _ _ (cut_early {hs} {s} call n g r) off =
      let (x, y) = or_parts _ _ off in
      without_power _ _ n g (not_called _ (writes_by i o call) _ (lasting v past e a hs s r y))
  lasting v past e a _ _ (gone {hs} {s} n g r) off = without_power _ _ n g (lasting v past e a hs s r off)

-- both synced, in either order
abbrev both_synced : Fs → ℕ → Fs
both_synced u i = record { tree = u.tree; older = []; cells = kept_all (cells (body_of u.tree i)) u.cells }

module _ (l : Limits) (u : Fs) (i : ℕ) (f : turned l u (sync_file i) ≡ 0) (t : turned l u sync_tree ≡ 0) where
  file_first : after l (after l u (sync_file i)) sync_tree ≡ both_synced u i
  unfolding changed refusal_by
  file_first =
      ap (λ v. after l v sync_tree) (done_since l u (sync_file i) f)
      ∙ done_since l (with_cells (kept_all (cells (body_of u.tree i)) u.cells) u) sync_tree t

  tree_first : after l (after l u sync_tree) (sync_file i) ≡ both_synced u i
  unfolding changed refusal_by
  tree_first =
      ap (λ v. after l v (sync_file i)) (done_since l u sync_tree t)
      ∙ done_since l (record { tree = u.tree; older = []; cells = u.cells }) (sync_file i) f

  was_file : is_file (body_of u.tree i) ≡ true
  unfolding refusal_by
  was_file = grind (arith, nat_tests)

-- what holds then
module _ (l : Limits) (past : List Happening) (u : Fs) (r : Explains l past u) (i o : ℕ) (h : o < length (cells (body_of u.tree i)))
    (f : is_file (body_of u.tree i) ≡ true) where
  abbrev c : ℕ
  c = cell_at u i o

  abbrev first : Block
  first = (get_or u.cells c empty_cell).now

  abbrev ts : List Node
  ts = u.tree.nodes

  a : Apart (length u.cells) ts
  a = apart l past u r 0

  alone_at : (j p : ℕ) → p < length (cells (find_node j ts)) → get_or (cells (find_node j ts)) p 0 ≡ c → (j ≡ i) × (p ≡ o)
  alone_at j p k e =
      elim (cases_eq j i) [
        | inl x ↦ (elim (cases_eq p o) [
          | inl y ↦ (x, y)
          | inr ne ↦ absurd
              (own_cell (length u.cells) ts a i o j p h k (λ z. ne z.1) e)
        ])
        | inr ne ↦ absurd (own_cell (length u.cells) ts a i o j p h k (λ z. ne z.0) e)
      ]

  id_low : i < u.tree.next
  id_low =
      elim (cases_lt i u.tree.next) [
        | inl lt ↦ lt
        | inr le ↦ absurd (omega (arith, (well l past u r).low i le, id_found i ts (file_some _ f)))
      ]

  at_sync : Lasting i o c first [] (both_synced u i)
  at_sync =
      let ks : List ℕ = cells (body_of u.tree i) in
      record {
        trees = more (record { low = id_low; has_it = λ _. (h, refl); alone = alone_at }) no_more;
        in_cells = le_trans (in_range (length u.cells) ts a i o h) (le_of_eq (sym (length-kept_all ks u.cells)));
        only =
            λ b m. subst (λ bs. Among b bs) (ap₂ {C = List Block} (λ x y. x ∷ y) (now_all ks u.cells c) (all_here ks u.cells o h))
            m;
      }

  since_sync : (v : Fs) (before : List Happening) → Explains l before v → v ≡ both_synced u i → (hs : List Happening) (s : Fs) →
      Leads l v hs s →
      is_file (body_of s.tree i) ≡ true → cut_off i o hs ≡ false → OldOrWritten u hs s i o
  since_sync v before e q hs s led still-file off =
      let z = lasting l i o c first v before e (subst (Lasting i o c first []) (sym q) at_sync) hs s led off in
      let (x, y) = (newest z.trees).has_it still-file in
      (x, subst (λ k. Among (get_or s.cells k empty_cell).now (first ∷ writes i o hs)) (sym y) (z.only _ (here _)))

pub file_lasts : (can : ℕ → Bool) → FileLasts can
unfolding FileLasts
file_lasts can l past u good r i o hs s h f t (inl led) still-file off =
    since_sync l past u r i o h (was_file l u i f t) _ _ (told sync_tree (told (sync_file i) r))
    (file_first l u i f t) hs s led still-file off
file_lasts can l past u good r i o hs s h f t (inr led) still-file off =
    since_sync l past u r i o h (was_file l u i f t) _ _ (told (sync_file i) (told sync_tree r))
    (tree_first l u i f t) hs s led still-file off
