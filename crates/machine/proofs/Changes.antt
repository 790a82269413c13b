-- What a call that is not refused does, by its kind; which cells a new tree has; and what it has room for.
use Rattle.std.proofs.Common.{◌≡◌, ℕ, suc, ◌+◌, ◌-◌, ◌*◌, ◌<◌, ◌≤◌, Bool, true, false, cond, ◌&&◌, ◌||◌, eqb, ltb, leb, ◌⊎◌, List, [], ◌∷◌, ◌++◌, map, length, get_or, take, set, replicate, sym, refl, ap, ◌∙◌, subst, inl, inr, ⊎_elim, append-nil, arith}
use lib.ListN.{length-map}
use Rattle.std.proofs.lemmas.List.{get_or-map}
use Rattle.std.proofs.lemmas.Bool.{and_parts, and_from, ltb-true, leb-true, false≢true}
use Rattle.model.specs.Tree.{some_of, Name, Entry, Body, dir, file, Node, Tree, find_node, body_of, is_dir, is_file, entries, cells}
use Rattle.model.specs.Tree.{named, without_node, with_body, without_name, drop_entry, made, removed, moved, without_any, holds}
use Rattle.model.specs.Tree.{all_cells, first_of}
use Rattle.model.specs.Calls.{good_fields, Call, find, make_file, make_dir, remove, rename, list, size, read, write, resize, sync_file}
use Rattle.model.specs.Calls.{sync_tree, garbled, readable, bytes, eight}
use Rattle.model.specs.Refusals.{Limits, may_change, a_dir, a_file, making, refusal_by, removing, in_place, renaming}
use Rattle.model.specs.Fs.{Fs, is_in, changed, push, numbers, with_cells, written, empty_cell, kept_all}
use Rattle.machine.specs.State.{ren, Kind, nothing, push_it, write_it, keep_it, sync_it, kind, more, next_tree}
use Rattle.machine.proofs.Lists.{in_left, in_right, in_either, in_take, in_nth}
use Rattle.machine.proofs.Renaming.{cond_map, find_ren, cells_of_ren, entries_ren}

-- a new tree, with new cells
abbrev pub pushed : Fs → Call → Fs
pushed s c = record {
  tree = next_tree s.tree (numbers (more s.tree c) (length s.cells)) c;
  older = s.tree ∷ s.older;
  cells =
      s.cells ++ replicate (more s.tree c) empty_cell;
}

unfoldable pub changed_by : Fs → Call → Kind → Fs
changed_by s c nothing = s
changed_by s c push_it = pushed s c
changed_by s c (write_it x b) = with_cells (set s.cells x (written (get_or s.cells x empty_cell) b)) s
changed_by s c (keep_it xs) = with_cells (kept_all xs s.cells) s
changed_by s c sync_it = record { tree = s.tree; older = []; cells = s.cells }

pushed_none : (s : Fs) (t : Tree) → push t s ≡ record { tree = t; older = s.tree ∷ s.older; cells = s.cells ++ replicate 0 empty_cell }
pushed_none s t = rw (append-nil s.cells)

pub changed_is : (s : Fs) (c : Call) → changed s c ≡ changed_by s c (kind s.tree c)
unfolding changed changed_by kind more next_tree
changed_is s (find d n) = refl
changed_is s (make_file d n) = pushed_none s (made d n (file []) s.tree)
changed_is s (make_dir d n) = pushed_none s (made d n (dir []) s.tree)
changed_is s (remove d n) = pushed_none s (removed d n (first_of (named s.tree d n)) s.tree)
changed_is s (rename d n e m) =
    let b : Bool = some_of (named s.tree e m) && eqb (first_of (named s.tree d n)) (first_of (named s.tree e m)) in
    ap (cond b s) (pushed_none s (moved d n e m (first_of (named s.tree d n)) s.tree))
    ∙ sym (cond_map (changed_by s (rename d n e m)) b nothing push_it)
changed_is s (list d k) = refl
changed_is s (size i) = refl
changed_is s (read i o) = refl
changed_is s (write i o b) = refl
changed_is s (resize i n) = sym (cond_map (changed_by s (resize i n)) (eqb n (length (cells (body_of s.tree i)))) nothing push_it)
changed_is s (sync_file i) = refl
changed_is s sync_tree = refl
changed_is s (garbled n) = refl

-- a refusal is 0
pub cond_then : (b : Bool) (x k : ℕ) → cond b x (suc k) ≡ 0 → (b ≡ true) × (x ≡ 0)
cond_then true x k e = (refl, e)
cond_then false x k e = let z : ⊥ = omega arith in absurd z

pub cond_else : (b : Bool) (x k : ℕ) → cond b (suc k) x ≡ 0 → (b ≡ false) × (x ≡ 0)
cond_else true x k e = let z : ⊥ = omega arith in absurd z
cond_else false x k e = (refl, e)

pub place_in : (l : Limits) (t : Tree) (i p : ℕ) → a_file t i (cond (ltb p (length (cells (body_of t i)))) 0 10) ≡ 0 →
    p < length (cells (body_of t i))
place_in l t i p e =
    let k : ℕ = length (cells (body_of t i)) in
    ltb-true p k (cond_then (ltb p k) 0 9 (cond_then (is_file (body_of t i)) (cond (ltb p k) 0 10) 3 e).1).0

-- cells by other numbers, in kinds
unfoldable pub ren_kind : (ℕ → ℕ) → Kind → Kind
ren_kind f nothing = nothing
ren_kind f push_it = push_it
ren_kind f (write_it x b) = write_it (f x) b
ren_kind f (keep_it xs) = keep_it (map f xs)
ren_kind f sync_it = sync_it

pub kind_ren : (f : ℕ → ℕ) (l : Limits) (t : Tree) (o h : ℕ) (c : Call) → refusal_by l t o h c ≡ 0 →
    kind (ren f t) c ≡ ren_kind f (kind t c)
unfolding kind ren_kind refusal_by
kind_ren f l t o h (find d n) e = refl
kind_ren f l t o h (make_file d n) e = refl
kind_ren f l t o h (make_dir d n) e = refl
kind_ren f l t o h (remove d n) e = refl
kind_ren f l t o h (rename d n e' m) e =
    simp (find_ren, entries_ren)
    (sym (cond_map (ren_kind f) (some_of (named t e' m) && eqb (first_of (named t d n)) (first_of (named t e' m))) nothing push_it))
kind_ren f l t o h (list d k) e = refl
kind_ren f l t o h (size i) e = refl
kind_ren f l t o h (read i p) e = refl
kind_ren f l t o h (write i p b) e =
    let q : p < length (cells (body_of t i)) = place_in l t i p e in
    simp (find_ren, cells_of_ren) (ap {B = Kind} (λ x. write_it x b) (get_or-map f (cells (body_of t i)) p 0 0 q))
kind_ren f l t o h (resize i n) e =
    simp (find_ren, cells_of_ren, length-map) (sym (cond_map (ren_kind f) (eqb n (length (cells (body_of t i)))) nothing push_it))
kind_ren f l t o h (sync_file i) e = simp (find_ren, cells_of_ren)
kind_ren f l t o h sync_tree e = refl
kind_ren f l t o h (garbled n) e = refl

-- which cells
pub cond_case : {A : Type 0} (P : A → Type 0) (b : Bool) (x y : A) → P (cond b x y) → ((b ≡ true) × P x) ⊎ ((b ≡ false) × P y)
cond_case P true x y p = inl (refl, p)
cond_case P false x y p = inr (refl, p)

pub in_body : (x i : ℕ) (ts : List Node) → is_in x (cells (find_node i ts)) ≡ true → is_in x (all_cells ts) ≡ true
unfolding find_node all_cells cells
in_body x i [] h = h
in_body x i (t ∷ ts) h =
    ⊎_elim (λ p. in_left x (cells (t.body ∷ [])) (all_cells ts) p.1)
    (λ p. in_right x (cells (t.body ∷ [])) (all_cells ts) (in_body x i ts p.1))
    (cond_case (λ (bs : List Body). is_in x (cells bs) ≡ true) (eqb i t.id) (t.body ∷ []) (find_node i ts) h)

abbrev pub Has : ℕ → List Node → Type 0
Has x ts = is_in x (all_cells ts) ≡ true

pub with_body_from : (x i : ℕ) (b : Body) (ts : List Node) → Has x (with_body i b ts) → Has x ts ⊎ (is_in x (cells (b ∷ [])) ≡ true)
unfolding with_body all_cells
with_body_from x i b [] h = inl h
with_body_from x i b (t ∷ ts) h =
    ⊎_elim
    (λ p. ⊎_elim (λ q. inr q) (λ q. inl (in_right x (cells (t.body ∷ [])) (all_cells ts) q))
    (in_either x (cells (b ∷ [])) (all_cells ts) p.1))
    (λ p. ⊎_elim (λ q. inl (in_left x (cells (t.body ∷ [])) (all_cells ts) q))
    (λ q. ⊎_elim (λ r. inl (in_right x (cells (t.body ∷ [])) (all_cells ts) r)) (λ r. inr r) (with_body_from x i b ts q))
    (in_either x (cells (t.body ∷ [])) (all_cells (with_body i b ts)) p.1))
    (cond_case (λ (us : List Node). Has x us) (eqb i t.id) (record { id = i; body = b } ∷ ts) (t ∷ with_body i b ts) h)

pub without_node_from : (x i : ℕ) (ts : List Node) → Has x (without_node i ts) → Has x ts
unfolding without_node all_cells
without_node_from x i [] h = h
without_node_from x i (t ∷ ts) h =
    ⊎_elim
    (λ p. in_right x (cells (t.body ∷ [])) (all_cells ts) p.1)
    (λ p. ⊎_elim (λ q. in_left x (cells (t.body ∷ [])) (all_cells ts) q)
    (λ q. in_right x (cells (t.body ∷ [])) (all_cells ts) (without_node_from x i ts q))
    (in_either x (cells (t.body ∷ [])) (all_cells (without_node i ts)) p.1))
    (cond_case (λ (us : List Node). Has x us) (eqb i t.id) ts (t ∷ without_node i ts) h)

append-from : (x : ℕ) (ts us : List Node) → Has x (ts ++ us) → Has x ts ⊎ Has x us
unfolding all_cells
append-from x [] us h = inr h
append-from x (t ∷ ts) us h =
    ⊎_elim (λ p. inl (in_left x (cells (t.body ∷ [])) (all_cells ts) p))
    (λ p. ⊎_elim (λ q. inl (in_right x (cells (t.body ∷ [])) (all_cells ts) q)) (λ q. inr q) (append-from x ts us p))
    (in_either x (cells (t.body ∷ [])) (all_cells (ts ++ us)) h)

dir_from : (x i : ℕ) (es : List Entry) (ts : List Node) → Has x (with_body i (dir es) ts) → Has x ts
unfolding cells is_in
dir_from x i es ts h = ⊎_elim (λ p. p) (λ p. absurd (false≢true p)) (with_body_from x i (dir es) ts h)

made_from : (x d : ℕ) (n : Name) (b : Body) (t : Tree) → cells (b ∷ []) ≡ [] → Has x (made d n b t).nodes → Has x t.nodes
unfolding all_cells is_in
made_from x d n b t e h =
    let us : List Node = t.nodes ++ (record { id = t.next; body = b } ∷ []) in
    ⊎_elim (λ p. p) (λ p. absurd (false≢true (subst (λ (xs : List ℕ). is_in x (xs ++ []) ≡ true) e p)))
    (append-from x t.nodes (record { id = t.next; body = b } ∷ [])
    (dir_from x d (entries (find_node d us) ++ (record { name = n; id = t.next } ∷ [])) us h))

removed_from : (x d : ℕ) (n : Name) (i : ℕ) (t : Tree) → Has x (removed d n i t).nodes → Has x t.nodes
removed_from x d n i t h = dir_from x d (without_name n (entries (body_of t d))) t.nodes
    (without_node_from x i (drop_entry d n t).nodes h)

without_any_from : (x e : ℕ) (m : Name) (js : List ℕ) (t : Tree) → Has x (without_any e m js t).nodes → Has x t.nodes
unfolding without_any
without_any_from x e m [] t h = h
without_any_from x e m (j ∷ js) t h = removed_from x e m j t h

moved_from : (x d : ℕ) (n : Name) (e : ℕ) (m : Name) (i : ℕ) (t : Tree) → Has x (moved d n e m i t).nodes → Has x t.nodes
moved_from x d n e m i t h =
    let u : Tree = without_any e m (named t e m) t in
    let v : Tree = drop_entry d n u in
    without_any_from x e m (named t e m) t (dir_from x d (without_name n (entries (body_of u d))) u.nodes
    (dir_from x e (entries (body_of v e) ++ (record { name = m; id = i } ∷ [])) v.nodes h))

pub next_from : (x : ℕ) (t : Tree) (new : List ℕ) (c : Call) → Has x (next_tree t new c).nodes → Has x t.nodes ⊎ (is_in x new ≡ true)
unfolding next_tree cells
next_from x t new (find d n) h = inl h
next_from x t new (make_file d n) h = inl (made_from x d n (file []) t refl h)
next_from x t new (make_dir d n) h = inl (made_from x d n (dir []) t refl h)
next_from x t new (remove d n) h = inl (removed_from x d n (first_of (named t d n)) t h)
next_from x t new (rename d n e m) h = inl (moved_from x d n e m (first_of (named t d n)) t h)
next_from x t new (list d k) h = inl h
next_from x t new (size i) h = inl h
next_from x t new (read i o) h = inl h
next_from x t new (write i o b) h = inl h
next_from x t new (resize i n) h =
    let cs : List ℕ = cells (body_of t i) in
    ⊎_elim (λ p. inl p) (λ p. ⊎_elim (λ q. inl (in_body x i t.nodes (in_take x n cs q))) (λ q. inr q)
    (in_either x (take n cs) new p)) (with_body_from x i (file (take n cs ++ new)) t.nodes h)
next_from x t new (sync_file i) h = inl h
next_from x t new sync_tree h = inl h
next_from x t new (garbled n) h = inl h

-- and that new ones are there
with_body_has : (x i : ℕ) (b : Body) (ts : List Node) → is_file (find_node i ts) ≡ true → is_in x (cells (b ∷ [])) ≡ true →
    Has x (with_body i b ts)
unfolding with_body find_node all_cells is_file
with_body_has x i b [] f h = absurd (false≢true f)
with_body_has x i b (t ∷ ts) f h = go (eqb i t.id) (λ g. with_body_has x i b ts g h) f
  where
    go : (q : Bool) → (is_file (find_node i ts) ≡ true → Has x (with_body i b ts)) →
        is_file (cond q (t.body ∷ []) (find_node i ts)) ≡ true → Has x (cond q (record { id = i; body = b } ∷ ts) (t ∷ with_body i b ts))
    go true ih g = in_left x (cells (b ∷ [])) (all_cells ts) h
    go false ih g = in_right x (cells (t.body ∷ [])) (all_cells (with_body i b ts)) (ih g)

no_new : (x : ℕ) (new : List ℕ) → length new ≡ 0 → is_in x new ≡ true → ⊥
unfolding is_in
no_new x [] e h = false≢true h
no_new x (y ∷ ys) e h = omega arith

pub next_has : (x : ℕ) (l : Limits) (t : Tree) (o h : ℕ) (new : List ℕ) (c : Call) → refusal_by l t o h c ≡ 0 → length new ≡ more t c →
    is_in x new ≡ true → Has x (next_tree t new c).nodes
unfolding next_tree more refusal_by cells
next_has x l t o h new (find d n) e g p = absurd (no_new x new g p)
next_has x l t o h new (make_file d n) e g p = absurd (no_new x new g p)
next_has x l t o h new (make_dir d n) e g p = absurd (no_new x new g p)
next_has x l t o h new (remove d n) e g p = absurd (no_new x new g p)
next_has x l t o h new (rename d n e' m) e g p = absurd (no_new x new g p)
next_has x l t o h new (list d k) e g p = absurd (no_new x new g p)
next_has x l t o h new (size i) e g p = absurd (no_new x new g p)
next_has x l t o h new (read i q) e g p = absurd (no_new x new g p)
next_has x l t o h new (write i q b) e g p = absurd (no_new x new g p)
next_has x l t o h new (resize i n) e g p =
    let k : ℕ = length (cells (body_of t i)) in
    let f = cond_then (is_file (body_of t i)) (cond (eqb n k) 0 (cond (leb (h + (n - k)) l.room) (cond (ltb o l.pending) 0 9) 8))
    3 e in
    with_body_has x i (file (take n (cells (body_of t i)) ++ new)) t.nodes f.0 (in_right x (take n (cells (body_of t i))) new p)
next_has x l t o h new (sync_file i) e g p = absurd (no_new x new g p)
next_has x l t o h new sync_tree e g p = absurd (no_new x new g p)
next_has x l t o h new (garbled n) e g p = absurd (no_new x new g p)

-- what a call that isn't turned away has: room, and a place for one more older tree; a cell that is there
unfoldable pub Fine : Limits → Tree → ℕ → ℕ → Call → Kind → Type 0
Fine l t o h c nothing = Unit {0}
Fine l t o h c push_it = (h + more t c ≤ l.room) × (o < l.pending) × (kind t c ≡ push_it)
Fine l t o h c (write_it x b) = Has x t.nodes × ((eqb (length b) 4096 && bytes b) ≡ true)
Fine l t o h c (keep_it xs) = Unit {0}
Fine l t o h c sync_it = Unit {0}

pub may_zero : (l : Limits) (o : ℕ) → may_change l o ≡ 0 → o < l.pending
may_zero l o e = ltb-true o l.pending (cond_then (ltb o l.pending) 0 8 e).0

place_fine : (l : Limits) (t : Tree) (o i : ℕ) (js : List ℕ) → in_place l t o i js ≡ 0 → (some_of js && eqb i (first_of js)) ≡ false →
    o < l.pending
unfolding in_place some_of first_of
place_fine l t o i [] e f = may_zero l o e
place_fine l t o i (j ∷ js) e f =
    let b : Bool = (is_dir (body_of t i) && is_dir (body_of t j)) || (is_file (body_of t i) && is_file (body_of t j)) in
    let x : ℕ = cond (some_of (entries (body_of t j))) 7 (may_change l o) in
    let q : cond b x 7 ≡ 0 = subst (λ (c : Bool). cond c 0 (cond b x 7) ≡ 0) f e in
    may_zero l o (cond_else (some_of (entries (body_of t j))) (may_change l o) 6 (cond_then b x 6 q).1).1

rename_fine : (l : Limits) (t : Tree) (o e : ℕ) (m : Name) (is : List ℕ) → renaming l t o e m is ≡ 0 →
    (some_of (named t e m) && eqb (first_of is) (first_of (named t e m))) ≡ false → o < l.pending
unfolding renaming first_of
rename_fine l t o e m [] p f = let z : ⊥ = omega arith in absurd z
rename_fine l t o e m (i ∷ is) p f =
    place_fine l t o i (named t e m) (cond_else (holds (2 * length t.nodes * suc (length t.nodes)) t i e)
    (in_place l t o i (named t e m)) 6 p).1 f

remove_fine : (l : Limits) (t : Tree) (o : ℕ) (is : List ℕ) → removing l t o is ≡ 0 → o < l.pending
unfolding removing
remove_fine l t o [] p = let z : ⊥ = omega arith in absurd z
remove_fine l t o (i ∷ is) p = may_zero l o (cond_else (some_of (entries (body_of t i))) (may_change l o) 6 p).1

make_fine : (l : Limits) (t : Tree) (o d : ℕ) (n : Name) → making l t o d n ≡ 0 → o < l.pending
make_fine l t o d n p =
    let b : Bool = ltb (length t.nodes) l.nodes_most && ltb t.next 4294967295 in
    may_zero l o (cond_then b (may_change l o) 7 (cond_else (some_of (named t d n)) (cond b (may_change l o) 8) 5
    (cond_then (is_dir (body_of t d)) (cond (some_of (named t d n)) 6 (cond b (may_change l o) 8)) 2 p).1).1).1

cond_fine : (P : Kind → Type 0) (b : Bool) → P nothing → (b ≡ false → P push_it) → P (cond b nothing push_it)
cond_fine P true p q = p
cond_fine P false p q = q refl

pub fine : (l : Limits) (t : Tree) (o h : ℕ) (c : Call) → h ≤ l.room → readable c ≡ true → good_fields c ≡ true →
    refusal_by l t o h c ≡ 0 → Fine l t o h c (kind t c)
unfolding Fine refusal_by kind more readable good_fields
fine l t o h (find d n) r rd gf e = tt
fine l t o h (make_file d n) r rd gf e = let q = make_fine l t o d n e in (omega arith, q, refl)
fine l t o h (make_dir d n) r rd gf e = let q = make_fine l t o d n e in (omega arith, q, refl)
fine l t o h (remove d n) r rd gf e =
    (omega arith, remove_fine l t o (named t d n) (cond_then (is_dir (body_of t d)) (removing l t o (named t d n)) 2 e).1, refl)
fine l t o h (rename d n e' m) r rd gf e =
    cond_fine (Fine l t o h (rename d n e' m)) (some_of (named t e' m) && eqb (first_of (named t d n)) (first_of (named t e' m))) tt
    (λ f. (
      omega arith,
      rename_fine l t o e' m (named t d n)
          (cond_then (is_dir (body_of t e')) (renaming l t o e' m (named t d n)) 2
          (cond_then (is_dir (body_of t d)) (a_dir t e' (renaming l t o e' m (named t d n))) 2 e).1).1 f,
      ap
          (λ (b : Bool). cond b nothing push_it) f,
    ))
fine l t o h (list d k) r rd gf e = tt
fine l t o h (size i) r rd gf e = tt
fine l t o h (read i p) r rd gf e = tt
fine l t o h (write i p b) r rd gf e = (
  in_body (get_or (cells (body_of t i)) p 0) i t.nodes (in_nth (cells (body_of t i)) p (place_in l t i p e)),
  and_from
      (eqb (length b) 4096) (bytes b) gf (and_parts (eight i && eight p) (bytes b) rd).1,
)
fine l t o h (resize i n) r rd gf e =
    let k : ℕ = length (cells (body_of t i)) in
    let x : ℕ = cond (leb (h + (n - k)) l.room) (may_change l o) 8 in
    let a : cond (eqb n k) 0 x ≡ 0 = (cond_then (is_file (body_of t i)) (cond (eqb n k) 0 x) 3 e).1 in
    cond_fine (Fine l t o h (resize i n)) (eqb n k) tt
    (λ f. let p = cond_then (leb (h + (n - k)) l.room) (may_change l o) 7 (subst (λ (b : Bool). cond b 0 x ≡ 0) f a) in
    (leb-true (h + (n - k)) l.room p.0, may_zero l o p.1, ap (λ (b : Bool). cond b nothing push_it) f))
fine l t o h (sync_file i) r rd gf e = tt
fine l t o h sync_tree r rd gf e = tt
fine l t o h (garbled n) r rd gf e = tt
