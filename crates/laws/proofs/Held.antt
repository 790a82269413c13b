-- Law 4: cells held, nodes and older trees are at most as many as may be.
use Rattle.std.proofs.Common.{◌≡◌, ℕ, zero, suc, ◌+◌, ◌-◌, ◌<◌, ◌≤◌, Bool, List, [], ◌∷◌, ◌++◌, length, get_or, take, refl, le_trans, le_of_eq, arith}
use Rattle.model.specs.Tree.{Entry, Body, Node, Tree, find_node, body_of, cells, all_cells, without_node, with_body, dir, file}
use Rattle.model.specs.Calls.{Call}
use Rattle.model.specs.Refusals.{Limits}
use Rattle.model.specs.Fs.{Fs, new_fs, cells_of, each_once, held, push, numbers, resized, lost}
use Rattle.model.specs.World.{Happening}
use Rattle.model.specs.Promise.{Explains}
use Rattle.model.specs.Laws.{HasRoom}
use Rattle.model_facts.proofs.Cells.{length-numbers}
use Rattle.laws.proofs.Changes.{grown, fewer, moved_free, moved_over}
use Rattle.laws.proofs.Steps.{Step, still, changes, wrote, file_synced, sized, synced, ever}
use Rattle.laws.proofs.Totals.{total, of_found, if_found, total-append, total_with, total_without}
use Rattle.laws.proofs.Distinct.{occ, occ-append, in_occ, occ_in, each_once_le, each_once-append}
use Rattle.laws.proofs.Room.{few_wait, few_nodes}

-- a cell's places in a tree, as a sum over its nodes
abbrev pub places : ℕ → ℕ → Body → ℕ
places c _ b = occ c (cells (b ∷ []))

pub occ_cells : (c : ℕ) (ts : List Node) → occ c (all_cells ts) ≡ total (places c) ts
unfolding all_cells total occ
occ_cells c [] = refl
occ_cells c (t ∷ ts) = rw occ-append (omega (arith, occ_cells c ts))

found_le : (bs : List Body) (k : ℕ) → if_found bs k ≤ k
unfolding if_found
found_le [] k = omega arith
found_le (b ∷ bs) k = omega arith

pub found_cells : (c i : ℕ) (bs : List Body) → of_found (places c i) bs ≡ occ c (cells bs)
unfolding of_found cells occ
found_cells c i [] = refl
found_cells c i (dir es ∷ bs) = refl
found_cells c i (file cs ∷ bs) = refl

Within : List ℕ → List ℕ → Type 0
Within xs ys = (c : ℕ) → 0 < occ c xs → 0 < occ c ys

once_le : (xs ys : List ℕ) → Within xs ys → each_once xs ≤ each_once ys
unfolding Within
once_le xs ys f = each_once_le xs ys (λ c h. occ_in c ys (f c (in_occ c xs h)))

-- a change by which a tree gets no new cell
pub with_dir : (c i : ℕ) (es : List Entry) (ts : List Node) → total (places c) (with_body i (dir es) ts) ≤ total (places c) ts
unfolding cells occ
with_dir c i es ts = omega (arith, total_with (places c) i (dir es) ts, found_le (find_node i ts) (places c i (dir es)))

pub fewer_cells : (c i : ℕ) (ts : List Node) → total (places c) (without_node i ts) ≤ total (places c) ts
fewer_cells c i ts = omega (arith, total_without (places c) i ts)

add_node : (c i : ℕ) (b : Body) (ts : List Node) → cells (b ∷ []) ≡ [] →
    total (places c) (ts ++ (record { id = i; body = b } ∷ [])) ≡ total (places c) ts
unfolding total occ
add_node c i b ts e = rw total-append (rw e (omega arith))

occ-take : (c n : ℕ) (xs : List ℕ) → occ c (take n xs) ≤ occ c xs
unfolding occ
occ-take c zero xs = omega arith
occ-take c (suc n) [] = omega arith
occ-take c (suc n) (x ∷ xs) = omega (arith, occ-take c n xs)

pub with_file : (c i n m k : ℕ) (ts : List Node) →
    total (places c) (with_body i (file (take n (cells (find_node i ts)) ++ numbers m k)) ts) ≤ total (places c) ts + occ c (numbers m k)
unfolding cells
with_file c i n m k ts =
    let b : List ℕ = take n (cells (find_node i ts)) ++ numbers m k in
    omega (
      arith,
      total_with (places c) i (file b) ts,
      found_le (find_node i ts) (occ c b),
      found_cells c i (find_node i ts),
      occ-append c (take n (cells (find_node i ts))) (numbers m k),
      occ-take c n (cells (find_node i ts)),
    )

pub grown_cells : (c d i : ℕ) (es : List Entry) (b : Body) (ts : List Node) → cells (b ∷ []) ≡ [] →
    total (places c) (with_body d (dir es) (ts ++ (record { id = i; body = b } ∷ []))) ≤ total (places c) ts
grown_cells c d i es b ts e = le_trans (with_dir c d es _) (le_of_eq (add_node c i b ts e))

occ_nth : (c : ℕ) (d : Tree) (ts : List Tree) (n : ℕ) →
    occ c (all_cells (get_or ts n d).nodes) ≤ occ c (all_cells d.nodes) + occ c (cells_of ts)
unfolding cells_of occ
occ_nth c d [] n = omega arith
occ_nth c d (t ∷ ts) zero = rw occ-append (omega arith)
occ_nth c d (t ∷ ts) (suc n) = rw (occ-append c (all_cells t.nodes) (cells_of ts)) (omega (arith, occ_nth c d ts n))

push_held : (t : Tree) (s : Fs) → ((c : ℕ) → total (places c) t.nodes ≤ total (places c) s.tree.nodes) → held (push t s) ≤ held s
unfolding cells_of Within
push_held t s f = once_le _ _ (λ c. simp (occ-append, occ_cells) (omega (arith, f c)))

lost_held : (n : ℕ) (g : ℕ → ℕ) (s : Fs) → held (lost n g s) ≤ held s
unfolding cells_of Within occ
lost_held n g s =
    once_le _ _ (λ c. simp occ-append
    (omega (arith, occ-append c (all_cells s.tree.nodes) (cells_of s.older), occ_nth c s.tree (s.tree ∷ s.older) n)))

synced_held : (s : Fs) → each_once (cells_of (s.tree ∷ [])) ≤ held s
unfolding cells_of Within occ
synced_held s = once_le _ _ (λ c. simp occ-append (omega arith))

sized_held : (i n : ℕ) (s : Fs) → held (resized i n s) ≤ held s + (n - length (cells (body_of s.tree i)))
unfolding cells_of Within
sized_held i n s =
    let k : ℕ = length (cells (body_of s.tree i)) in
    let new : List ℕ = numbers (n - k) (length s.cells) in
    let old : List ℕ = cells_of (s.tree ∷ s.older) in
    le_trans {m = each_once (new ++ old)}
    (once_le _ _ (λ c. simp (occ-append, occ_cells) (omega (arith, with_file c i n (n - k) (length s.cells) s.tree.nodes))))
    (omega (arith, each_once-append new old, length-numbers (n - k) (length s.cells)))

start : (l : Limits) → held new_fs ≤ l.room
unfolding cells_of all_cells cells each_once
start l = omega arith

pub held_fits : (l : Limits) (hs : List Happening) (s : Fs) → Explains l hs s → held s ≤ l.room
held_fits l = ever l (λ s. held s ≤ l.room) (start l) next (λ s n g h. le_trans (lost_held n g s) h)
  where
    next : (s t : Fs) (c : Call) → Step l s c t → held s ≤ l.room → held t ≤ l.room
    next s t _ still h = h
    next s t _ (changes (grown d n b p q x y z) w) h = le_trans (push_held _ s (λ c. grown_cells c d _ _ b _ q)) h
    next s t _ (changes (fewer d n i is x y z) w) h = le_trans (push_held _ s (λ c. le_trans (fewer_cells c i _) (with_dir c d _ _))) h
    next s t _ (changes (moved_free d n e m i is o x y p q) w) h =
        le_trans (push_held _ s (λ c. le_trans (with_dir c e _ _) (with_dir c d _ _))) h
    next s t _ (changes (moved_over d n e m i is j js o x y p q r z) w) h =
        le_trans (push_held _ s (λ c. le_trans (with_dir c e _ _)
        (le_trans (with_dir c d _ _) (le_trans (fewer_cells c j _) (with_dir c e _ _))))) h
    next s t _ (wrote i p b w) h = h
    next s t _ (file_synced i) h = h
    next s t _ (sized i n x y w) h = le_trans (sized_held i n s) y
    next s t _ synced h = le_trans (synced_held s) h

pub has_room : (can : ℕ → Bool) → HasRoom can
unfolding HasRoom
has_room can l hs s good r = (held_fits l hs s r, few_wait l hs s r, few_nodes l good.1 hs s r)
