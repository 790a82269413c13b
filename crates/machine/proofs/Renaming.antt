-- Cells by other numbers: refusals, answers and changes do not depend on how cells are numbered.
use Rattle.std.proofs.Common.{◌≡◌, ℕ, zero, suc, Bool, true, false, cond, eqb, List, [], ◌∷◌, ◌++◌, map, length, take, sym, refl, ap, ◌∙◌}
use lib.ListN.{length-map}
use Rattle.std.proofs.lemmas.List.{map-append}
use Rattle.model.specs.Tree.{Name, Entry, Body, dir, file, Node, Tree, find_node, is_dir, is_file, entries, cells, named, without_node}
use Rattle.model.specs.Tree.{with_body, put_body, without_name, put_entry, drop_entry, drop_node, made, removed, moved, without_any}
use Rattle.model.specs.Tree.{holds, any_holds, first_of}
use Rattle.model.specs.Calls.{Call, find, make_file, make_dir, remove, rename, list, size, read, write, resize, sync_file, sync_tree}
use Rattle.model.specs.Calls.{garbled}
use Rattle.model.specs.Refusals.{Limits, removing, in_place, renaming, refusal, refusal_by}
use Rattle.model.specs.Tree.{cells, all_cells}
use Rattle.machine.specs.State.{ren_body, ren_nodes, ren, more, next_tree}

pub cond_map : {A B : Type 0} (g : A → B) (b : Bool) (x y : A) → g (cond b x y) ≡ cond b (g x) (g y)
cond_map g true x y = refl
cond_map g false x y = refl

-- cells in trees

pub cells_ren : (f : ℕ → ℕ) (b : Body) → cells (ren_body f b ∷ []) ≡ map f (cells (b ∷ []))
unfolding cells ren_body
cells_ren f (dir es) = refl
cells_ren f (file cs) = refl

pub all_cells_ren : (f : ℕ → ℕ) (ts : List Node) → all_cells (ren_nodes f ts) ≡ map f (all_cells ts)
unfolding all_cells ren_nodes
all_cells_ren f [] = refl
all_cells_ren f (t ∷ ts) = rw (cells_ren f t.body, all_cells_ren f ts, map-append f (cells (t.body ∷ [])) (all_cells ts))

-- bodies
module _ (f : ℕ → ℕ) where
  pub find_ren : (i : ℕ) (ts : List Node) → find_node i (ren_nodes f ts) ≡ map (ren_body f) (find_node i ts)
  unfolding find_node ren_nodes
  find_ren i [] = refl
  find_ren i (t ∷ ts) = rw (find_ren i ts) (sym (cond_map (map (ren_body f)) (eqb i t.id) (t.body ∷ []) (find_node i ts)))

  pub is_dir_ren : (bs : List Body) → is_dir (map (ren_body f) bs) ≡ is_dir bs
  unfolding is_dir ren_body
  is_dir_ren [] = refl
  is_dir_ren (dir es ∷ bs) = refl
  is_dir_ren (file cs ∷ bs) = refl

  pub is_file_ren : (bs : List Body) → is_file (map (ren_body f) bs) ≡ is_file bs
  unfolding is_file ren_body
  is_file_ren [] = refl
  is_file_ren (dir es ∷ bs) = refl
  is_file_ren (file cs ∷ bs) = refl

  pub entries_ren : (bs : List Body) → entries (map (ren_body f) bs) ≡ entries bs
  unfolding entries ren_body
  entries_ren [] = refl
  entries_ren (dir es ∷ bs) = refl
  entries_ren (file cs ∷ bs) = refl

  pub cells_of_ren : (bs : List Body) → cells (map (ren_body f) bs) ≡ map f (cells bs)
  unfolding cells ren_body
  cells_of_ren [] = refl
  cells_of_ren (dir es ∷ bs) = refl
  cells_of_ren (file cs ∷ bs) = refl

  pub length-ren : (ts : List Node) → length (ren_nodes f ts) ≡ length ts
  unfolding ren_nodes
  length-ren [] = refl
  length-ren (t ∷ ts) = ap suc (length-ren ts)

  mutual
    unfolding holds any_holds

    pub holds_ren : (k : ℕ) (t : Tree) (i j : ℕ) → holds k (ren f t) i j ≡ holds k t i j
    holds_ren zero t i j = refl
    holds_ren (suc k) t i j =
        rw (find_ren i t.nodes, entries_ren (find_node i t.nodes), any_holds_ren k t (entries (find_node i t.nodes)) j)

    pub any_holds_ren : (k : ℕ) (t : Tree) (es : List Entry) (j : ℕ) → any_holds k (ren f t) es j ≡ any_holds k t es j
    any_holds_ren zero t es j = refl
    any_holds_ren (suc k) t [] j = refl
    any_holds_ren (suc k) t (e ∷ es) j = rw (holds_ren k t e.id j, any_holds_ren k t es j)

  -- refusals
  removing_ren : (l : Limits) (t : Tree) (o : ℕ) (is : List ℕ) → removing l (ren f t) o is ≡ removing l t o is
  unfolding removing
  removing_ren l t o [] = refl
  removing_ren l t o (i ∷ is) = simp (find_ren, entries_ren)

  in-place-ren : (l : Limits) (t : Tree) (o i : ℕ) (js : List ℕ) → in_place l (ren f t) o i js ≡ in_place l t o i js
  unfolding in_place
  in-place-ren l t o i [] = refl
  in-place-ren l t o i (j ∷ js) = simp (find_ren, entries_ren, is_dir_ren, is_file_ren)

  renaming_ren : (l : Limits) (t : Tree) (o e : ℕ) (m : Name) (is : List ℕ) → renaming l (ren f t) o e m is ≡ renaming l t o e m is
  unfolding renaming
  renaming_ren l t o e m [] = refl
  renaming_ren l t o e m (i ∷ is) = simp (length-ren, holds_ren, in-place-ren, find_ren, entries_ren)

  pub refusal_by_ren : (l : Limits) (t : Tree) (o h : ℕ) (c : Call) → refusal_by l (ren f t) o h c ≡ refusal_by l t o h c
  unfolding refusal_by
  refusal_by_ren l t o h (find d n) = simp (find_ren, entries_ren, is_dir_ren)
  refusal_by_ren l t o h (make_file d n) = simp (find_ren, entries_ren, is_dir_ren, length-ren)
  refusal_by_ren l t o h (make_dir d n) = simp (find_ren, entries_ren, is_dir_ren, length-ren)
  refusal_by_ren l t o h (remove d n) = simp (find_ren, entries_ren, is_dir_ren, removing_ren)
  refusal_by_ren l t o h (rename d n e m) = simp (find_ren, entries_ren, is_dir_ren, renaming_ren)
  refusal_by_ren l t o h (list d k) = simp (find_ren, entries_ren, is_dir_ren)
  refusal_by_ren l t o h (size i) = simp (find_ren, is_file_ren)
  refusal_by_ren l t o h (read i p) = simp (find_ren, is_file_ren, cells_of_ren, length-map)
  refusal_by_ren l t o h (write i p b) = simp (find_ren, is_file_ren, cells_of_ren, length-map)
  refusal_by_ren l t o h (resize i n) = simp (find_ren, is_file_ren, cells_of_ren, length-map)
  refusal_by_ren l t o h (sync_file i) = simp (find_ren, is_file_ren)
  refusal_by_ren l t o h sync_tree = refl
  refusal_by_ren l t o h (garbled n) = refl

  pub refusal_ren : (l : Limits) (t : Tree) (o h : ℕ) (c : Call) → refusal l (ren f t) o h c ≡ refusal l t o h c
  refusal_ren l t o h c = simp refusal_by_ren

  -- new trees
  with_body_ren : (i : ℕ) (b : Body) (ts : List Node) → with_body i (ren_body f b) (ren_nodes f ts) ≡ ren_nodes f (with_body i b ts)
  unfolding with_body ren_nodes
  with_body_ren i b [] = refl
  with_body_ren i b (t ∷ ts) =
      rw (with_body_ren i b ts) (sym (cond_map (ren_nodes f) (eqb i t.id) (record { id = i; body = b } ∷ ts) (t ∷ with_body i b ts)))

  without_node_ren : (i : ℕ) (ts : List Node) → without_node i (ren_nodes f ts) ≡ ren_nodes f (without_node i ts)
  unfolding without_node ren_nodes
  without_node_ren i [] = refl
  without_node_ren i (t ∷ ts) = rw (without_node_ren i ts) (sym (cond_map (ren_nodes f) (eqb i t.id) ts (t ∷ without_node i ts)))

  nodes_append_ren : (ts us : List Node) → ren_nodes f (ts ++ us) ≡ ren_nodes f ts ++ ren_nodes f us
  unfolding ren_nodes
  nodes_append_ren [] us = refl
  nodes_append_ren (t ∷ ts) us = rw (nodes_append_ren ts us)

  take-map : (n : ℕ) (xs : List ℕ) → take n (map f xs) ≡ map f (take n xs)
  take-map zero xs = refl
  take-map (suc n) [] = refl
  take-map (suc n) (x ∷ xs) = ap {B = List ℕ} (λ ys. f x ∷ ys) (take-map n xs)

  put_body_ren : (i : ℕ) (b : Body) (t : Tree) → put_body i (ren_body f b) (ren f t) ≡ ren f (put_body i b t)
  put_body_ren i b t = rw (with_body_ren i b t.nodes)

  put_entry_ren : (d : ℕ) (n : Name) (i : ℕ) (t : Tree) → put_entry d n i (ren f t) ≡ ren f (put_entry d n i t)
  unfolding ren_body
  put_entry_ren d n i t = rw (find_ren d t.nodes, entries_ren (find_node d t.nodes))
      (put_body_ren d (dir (entries (find_node d t.nodes) ++ (record { name = n; id = i } ∷ []))) t)

  drop_entry_ren : (d : ℕ) (n : Name) (t : Tree) → drop_entry d n (ren f t) ≡ ren f (drop_entry d n t)
  unfolding ren_body
  drop_entry_ren d n t = rw (find_ren d t.nodes, entries_ren (find_node d t.nodes))
      (put_body_ren d (dir (without_name n (entries (find_node d t.nodes)))) t)

  removed_ren : (d : ℕ) (n : Name) (i : ℕ) (t : Tree) → removed d n i (ren f t) ≡ ren f (removed d n i t)
  removed_ren d n i t = ap (drop_node i) (drop_entry_ren d n t) ∙ rw (without_node_ren i (drop_entry d n t).nodes)

  made_ren : (d : ℕ) (n : Name) (b : Body) (t : Tree) → made d n (ren_body f b) (ren f t) ≡ ren f (made d n b t)
  unfolding ren_nodes
  made_ren d n b t =
      let u : Tree = record { nodes = t.nodes ++ (record { id = t.next; body = b } ∷ []); next = suc t.next } in
      ap (put_entry d n t.next) (ap {B = Tree} (λ ts. record { nodes = ts; next = suc t.next })
      (sym (nodes_append_ren t.nodes (record { id = t.next; body = b } ∷ [])))) ∙ put_entry_ren d n t.next u

  without_any_ren : (e : ℕ) (m : Name) (js : List ℕ) (t : Tree) → without_any e m js (ren f t) ≡ ren f (without_any e m js t)
  unfolding without_any
  without_any_ren e m [] t = refl
  without_any_ren e m (j ∷ js) t = removed_ren e m j t

  pub named_ren : (t : Tree) (d : ℕ) (n : Name) → named (ren f t) d n ≡ named t d n
  named_ren t d n = rw (find_ren d t.nodes, entries_ren (find_node d t.nodes))

  moved_ren : (d : ℕ) (n : Name) (e : ℕ) (m : Name) (i : ℕ) (t : Tree) → moved d n e m i (ren f t) ≡ ren f (moved d n e m i t)
  moved_ren d n e m i t =
      let u : Tree = without_any e m (named t e m) t in
      ap (λ (js : List ℕ). put_entry e m i (drop_entry d n (without_any e m js (ren f t)))) (named_ren t e m)
      ∙ (ap (λ (x : Tree). put_entry e m i (drop_entry d n x)) (without_any_ren e m (named t e m) t)
      ∙ (ap (put_entry e m i) (drop_entry_ren d n u) ∙ put_entry_ren e m i (drop_entry d n u)))

  pub more_ren : (t : Tree) (c : Call) → more (ren f t) c ≡ more t c
  unfolding more
  more_ren t (find d n) = refl
  more_ren t (make_file d n) = refl
  more_ren t (make_dir d n) = refl
  more_ren t (remove d n) = refl
  more_ren t (rename d n e m) = refl
  more_ren t (list d k) = refl
  more_ren t (size i) = refl
  more_ren t (read i o) = refl
  more_ren t (write i o b) = refl
  more_ren t (resize i n) = simp (find_ren, cells_of_ren, length-map)
  more_ren t (sync_file i) = refl
  more_ren t sync_tree = refl
  more_ren t (garbled n) = refl

  pub next_ren : (t : Tree) (new : List ℕ) (c : Call) → next_tree (ren f t) (map f new) c ≡ ren f (next_tree t new c)
  unfolding next_tree ren_body
  next_ren t new (find d n) = refl
  next_ren t new (make_file d n) = made_ren d n (file []) t
  next_ren t new (make_dir d n) = made_ren d n (dir []) t
  next_ren t new (remove d n) = ap (λ (is : List ℕ). removed d n (first_of is) (ren f t)) (named_ren t d n)
      ∙ removed_ren d n (first_of (named t d n)) t
  next_ren t new (rename d n e m) = ap (λ (is : List ℕ). moved d n e m (first_of is) (ren f t)) (named_ren t d n)
      ∙ moved_ren d n e m (first_of (named t d n)) t
  next_ren t new (list d k) = refl
  next_ren t new (size i) = refl
  next_ren t new (read i o) = refl
  next_ren t new (write i o b) = refl
  next_ren t new (resize i n) =
      let cs : List ℕ = cells (find_node i t.nodes) in
      ap (λ (xs : List ℕ). put_body i (file xs) (ren f t))
      (simp (find_ren, cells_of_ren, take-map, map-append))
      ∙ put_body_ren i (file (take n cs ++ new)) t
  next_ren t new (sync_file i) = refl
  next_ren t new sync_tree = refl
  next_ren t new (garbled n) = refl
