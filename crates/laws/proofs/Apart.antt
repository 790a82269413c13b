-- Law 3: no cell is at two places of a tree, and each number of a cell that a tree has is the number of one.
use Rattle.std.proofs.Common.{◌≡◌, ℕ, zero, suc, ◌+◌, ◌-◌, ◌<◌, ◌≤◌, Bool, false, ◌⊎◌, List, [], ◌∷◌, length, get_or, refl, inl, le_trans, arith, length-append, length-set}
use lib.ListN.{length-replicate}
use Rattle.std.proofs.lemmas.Bool.Decides.{nat_tests}
use Rattle.model.specs.Tree.{Node, body_of, cells}
use Rattle.model.specs.Calls.{Call}
use Rattle.model.specs.Refusals.{Limits}
use Rattle.model.specs.Fs.{Fs, numbers, resized}
use Rattle.model.specs.World.{Happening}
use Rattle.model.specs.Promise.{Explains}
use Rattle.model.specs.Laws.{cell_twice, CellsOnce}
use Rattle.model_facts.proofs.Cells.{length-kept_all}
use Rattle.laws.proofs.Changes.{grown, fewer, moved_free, moved_over}
use Rattle.laws.proofs.Steps.{Step, still, changes, wrote, file_synced, sized, synced}
use Rattle.laws.proofs.Each.{ever_each}
use Rattle.laws.proofs.Totals.{total}
use Rattle.laws.proofs.Distinct.{occ, in_occ}
use Rattle.laws.proofs.Held.{places, occ_cells, with_dir, fewer_cells, grown_cells, with_file}

not_twice : (xs : List ℕ) → ((c : ℕ) → occ c xs ≤ 1) → cell_twice xs ≡ false
unfolding cell_twice occ
not_twice [] f = refl
not_twice (x ∷ xs) f = let ih = not_twice xs (λ c. omega (arith, f c)) in let k = f x in let m = in_occ x xs in grind (arith, nat_tests)

occ_numbers : (c m k : ℕ) → (occ c (numbers m k) ≡ 0) ⊎ ((occ c (numbers m k) ≡ 1) × (k ≤ c) × (c < k + m))
unfolding numbers occ
occ_numbers c zero k = inl refl
occ_numbers c (suc m) k = let ih = occ_numbers c m (suc k) in grind (arith, nat_tests)

abbrev pub Apart : ℕ → List Node → Type 0
Apart w ts = (c : ℕ) → (total (places c) ts ≤ 1) × (0 < total (places c) ts → c < w)

fewer_apart : (w : ℕ) (xs ys : List Node) → ((c : ℕ) → total (places c) ys ≤ total (places c) xs) → Apart w xs → Apart w ys
fewer_apart w xs ys f a c = let g = f c in let (x, y) = a c in grind arith

sized_apart : (i n : ℕ) (s : Fs) → Apart (length s.cells) s.tree.nodes →
    Apart (length (resized i n s).cells) (resized i n s).tree.nodes
sized_apart i n s a c =
    let k : ℕ = n - length (cells (body_of s.tree i)) in
    let (x, y) = a c in
    let fresh = occ_numbers c k (length s.cells) in
    let all = with_file c i n k (length s.cells) s.tree.nodes in
    simp (length-append, length-replicate) (grind arith)

pub apart : (l : Limits) (hs : List Happening) (s : Fs) → Explains l hs s → (n : ℕ) →
    Apart (length s.cells) (get_or (s.tree ∷ s.older) n s.tree).nodes
unfolding total cells occ
apart l =
    ever_each l (λ w t. Apart w t.nodes) (λ v w t h a c. ((a c).0, λ p. omega (arith, (a c).1 p)))
    (λ c. (omega arith, λ h. omega arith)) next
  where
    next : (s t : Fs) (c : Call) → Step l s c t → Apart (length s.cells) s.tree.nodes → Apart (length t.cells) t.tree.nodes
    next s t _ still a = a
    next s t _ (changes (grown d n b p q x y z) w) a = fewer_apart _ s.tree.nodes _ (λ c. grown_cells c d _ _ b _ q) a
    next s t _ (changes (fewer d n i is x y z) w) a =
        fewer_apart _ s.tree.nodes _ (λ c. le_trans (fewer_cells c i _) (with_dir c d _ _)) a
    next s t _ (changes (moved_free d n e m i is o x y p q) w) a =
        fewer_apart _ s.tree.nodes _ (λ c. le_trans (with_dir c e _ _) (with_dir c d _ _)) a
    next s t _ (changes (moved_over d n e m i is j js o x y p q r z) w) a =
        fewer_apart _ s.tree.nodes _
        (λ c. le_trans (with_dir c e _ _) (le_trans (with_dir c d _ _) (le_trans (fewer_cells c j _) (with_dir c e _ _)))) a
    next s t _ (wrote i p b h) a = rw (length-set s.cells _ _) a
    next s t _ (file_synced i) a = rw (length-kept_all _ s.cells) a
    next s t _ (sized i n x y w) a = λ c. sized_apart i n s a c
    next s t _ synced a = a

pub cells_once : (can : ℕ → Bool) → CellsOnce can
unfolding CellsOnce
cells_once can l hs s good r n _ = not_twice _ (λ c. rw occ_cells (apart l hs s r n c).0)
