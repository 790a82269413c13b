-- Trees that the layout can carry stay so: the first tree is one, and each call that is not refused makes one of one.
use Rattle.std.proofs.Common.{◌≡◌, ℕ, zero, suc, ◌+◌, ◌-◌, ◌*◌, ◌<◌, ◌≤◌, Bool, true, false, cond, ◌&&◌, ◌||◌, eqb, ltb, leb, ◌⊎◌, List, [], ◌∷◌, ◌++◌, length, take, sym, refl, ap, ◌∙◌, subst, ap₂, inl, inr, ⊎_elim, append_assoc, append-nil, zero-le, arith, length-append}
use Rattle.std.proofs.lemmas.Bool.{eqb-true, eqb-false, ltb-true, lt-ltb, leb-true, le-leb, eq-eqb, and_parts, and_from, or_cases, or_parts, or_from, or_left, or_right, both_ways, false≢true, cases_Bool, cases_eq}
use Rattle.model.specs.Tree.{some_of, same, Name, Entry, Body, dir, file, Node, Tree, new_tree, find_node, body_of, is_dir, is_file}
use Rattle.model.specs.Tree.{entries, cells, find_name, named, without_node, with_body, put_body, without_name, put_entry, drop_entry}
use Rattle.model.specs.Tree.{made, removed, moved, without_any, holds, all_cells, first_of}
use Rattle.model.specs.Calls.{Call, find, make_file, make_dir, remove, rename, list, size, read, write, resize, sync_file, sync_tree}
use Rattle.model.specs.Calls.{garbled, call_number, good_fields, good_name, readable, bytes, eight}
use Rattle.model.specs.Refusals.{Limits, may_change, a_dir, making, refusal, refusal_by, removing, in_place, renaming}
use Rattle.model.specs.Fs.{is_in, each_once}
use Rattle.model.specs.Laws.{cell_twice}
use Rattle.model_facts.proofs.Nodes.{find_with, find_with_other, find_without_other, length_with, length_without}
use Rattle.model_facts.proofs.Names.{same_is, find_without_name}
use Rattle.machine.specs.State.{Sized, entry_count, Kind, nothing, push_it, write_it, keep_it, sync_it, kind, more, next_tree, marks}
use Rattle.machine.specs.State.{count_set}
use Rattle.machine.specs.Fits.{every, ok_entry, ok_node, rising, Fits}
use Rattle.machine.proofs.Counting.{length-marks, count_few}
use Rattle.machine.proofs.Invariant.{at}
use Rattle.machine.proofs.Lists.{in_append, in_left, in_right, in_either, in_take, in_at}
use Rattle.machine.proofs.Changes.{cond_then, cond_else, Has, in_body, with_body_from, without_node_from}
use Rattle.machine.proofs.Counting.{ones_each}
use Rattle.machine.proofs.Tables.{entries-append}

-- 1. numbers and names
pub every_append : {A : Type 0} (p : A → Bool) (xs ys : List A) → every p xs ≡ true → every p ys ≡ true → every p (xs ++ ys) ≡ true
unfolding every
every_append p [] ys f g = g
every_append p (x ∷ xs) ys f g = let h = and_parts (p x) (every p xs) f in
    and_from (p x) (every p (xs ++ ys)) h.0 (every_append p xs ys h.1 g)

pub every_more : {A : Type 0} (p q : A → Bool) (xs : List A) → ((x : A) → p x ≡ true → q x ≡ true) → every p xs ≡ true → every q xs ≡ true
unfolding every
every_more p q [] f h = refl
every_more p q (x ∷ xs) f h = let g = and_parts (p x) (every p xs) h in
    and_from (q x) (every q xs) (f x g.0) (every_more p q xs f g.1)

-- so all cells are few, too
once_all : (xs : List ℕ) → cell_twice xs ≡ false → each_once xs ≡ length xs
unfolding cell_twice each_once
once_all [] h = refl
once_all (x ∷ xs) h = let p = or_parts (is_in x xs) (cell_twice xs) h in rw p.0 (let q = once_all xs p.1 in omega arith)

pub cells_few : (l : Limits) (t : Tree) → Fits l t → length (all_cells t.nodes) ≤ l.room
cells_few l t f =
    let xs : List ℕ = all_cells t.nodes in
    let p : count_set (marks l.room 0 xs) ≡ length xs = ones_each l.room xs f.inside ∙ once_all xs f.apart in
    let q = count_few (marks l.room 0 xs) in
    let r = length-marks l.room 0 xs in
    omega arith

pub fits_new : (l : Limits) → Sized l → Fits l new_tree
unfolding every entry_count all_cells cells entries cell_twice is_in rising
fits_new l gl = record {
  few = gl.1;
  small = omega arith;
  ok = refl;
  ascend = refl;
  named_few = omega arith;
  apart = refl;
  inside =
      λ x h. absurd (false≢true h);
}

cond_both : {A : Type 0} (P : A → Type 0) (b : Bool) (x y : A) → (b ≡ true → P x) → (b ≡ false → P y) → P (cond b x y)
cond_both P true x y f g = f refl
cond_both P false x y f g = g refl

-- bodies and names
module _ (n : ℕ) where
  ok_find : (i : ℕ) (ts : List Node) → every (ok_node n) ts ≡ true → every (ok_entry n) (entries (find_node i ts)) ≡ true
  unfolding every find_node entries
  ok_find i [] h = refl
  ok_find i (t ∷ ts) h =
      let p = and_parts (ok_node n t) (every (ok_node n) ts) h in
      let q = and_parts (ltb t.id n) (every (ok_entry n) (entries (t.body ∷ []))) p.0 in
      cond_both (λ (bs : List Body). every (ok_entry n) (entries bs) ≡ true) (eqb i t.id) (t.body ∷ []) (find_node i ts) (λ e. q.1)
      (λ e. ok_find i ts p.1)

  ok_with : (i : ℕ) (b : Body) (ts : List Node) → every (ok_node n) ts ≡ true → every (ok_entry n) (entries (b ∷ [])) ≡ true →
      every (ok_node n) (with_body i b ts) ≡ true
  unfolding every with_body
  ok_with i b [] h g = refl
  ok_with i b (t ∷ ts) h g =
      let p = and_parts (ok_node n t) (every (ok_node n) ts) h in
      let q = and_parts (ltb t.id n) (every (ok_entry n) (entries (t.body ∷ []))) p.0 in
      cond_both (λ (us : List Node). every (ok_node n) us ≡ true) (eqb i t.id) (record { id = i; body = b } ∷ ts)
      (t ∷ with_body i b ts)
      (λ e. and_from (ok_node n (record { id = i; body = b })) (every (ok_node n) ts)
      (and_from (ltb i n) (every (ok_entry n) (entries (b ∷ []))) (ap (λ (x : ℕ). ltb x n) (eqb-true i t.id e) ∙ q.0) g) p.1)
      (λ e. and_from (ok_node n t) (every (ok_node n) (with_body i b ts)) p.0 (ok_with i b ts p.1 g))

  ok_without : (i : ℕ) (ts : List Node) → every (ok_node n) ts ≡ true → every (ok_node n) (without_node i ts) ≡ true
  unfolding every without_node
  ok_without i [] h = refl
  ok_without i (t ∷ ts) h =
      let p = and_parts (ok_node n t) (every (ok_node n) ts) h in
      cond_both (λ (us : List Node). every (ok_node n) us ≡ true) (eqb i t.id) ts (t ∷ without_node i ts) (λ e. p.1)
      (λ e. and_from (ok_node n t) (every (ok_node n) (without_node i ts)) p.0 (ok_without i ts p.1))

  ok_without_name : (m : Name) (es : List Entry) → every (ok_entry n) es ≡ true → every (ok_entry n) (without_name m es) ≡ true
  unfolding every without_name
  ok_without_name m [] h = refl
  ok_without_name m (e ∷ es) h =
      let p = and_parts (ok_entry n e) (every (ok_entry n) es) h in
      cond_both (λ (us : List Entry). every (ok_entry n) us ≡ true) (same m e.name) es (e ∷ without_name m es) (λ q. p.1)
      (λ q. and_from (ok_entry n e) (every (ok_entry n) (without_name m es)) p.0 (ok_without_name m es p.1))

  -- what a name names is small
  ok_named : (m : Name) (es : List Entry) → every (ok_entry n) es ≡ true → some_of (find_name m es) ≡ true → first_of (find_name m es) < n
  unfolding every find_name some_of first_of
  ok_named m [] h g = absurd (false≢true g)
  ok_named m (e ∷ es) h g =
      let p = and_parts (ok_entry n e) (every (ok_entry n) es) h in
      let q = and_parts (ltb e.id n) (good_name e.name && bytes e.name) p.0 in
      go (same m e.name) (ltb-true e.id n q.0) (ok_named m es p.1) g
    where
      go : (b : Bool) → e.id < n → (some_of (find_name m es) ≡ true → first_of (find_name m es) < n) →
          some_of (cond b (e.id ∷ []) (find_name m es)) ≡ true → first_of (cond b (e.id ∷ []) (find_name m es)) < n
      go true f ih x = f
      go false f ih x = ih x

-- how many nodes, and how many entries
length_one_less : (i : ℕ) (ts : List Node) → length ts ≤ suc (length (without_node i ts))
unfolding without_node
length_one_less i [] = zero-le
length_one_less i (t ∷ ts) = cond_both (λ (us : List Node). suc (length ts) ≤ suc (length us)) (eqb i t.id) ts (t ∷ without_node i ts)
    (λ e. omega arith) (λ e. let q = length_one_less i ts in omega arith)

-- one body for another: by so many entries more or fewer, where it is there; and else nothing changes
ents_with : (i : ℕ) (b : Body) (ts : List Node) →
    (entry_count (with_body i b ts) + length (entries (find_node i ts)) ≡ entry_count ts + length (entries (b ∷ []))) ⊎
    ((entry_count (with_body i b ts) ≡ entry_count ts) × (find_node i ts ≡ []))
unfolding with_body find_node entry_count
ents_with i b [] = inr (refl, refl)
ents_with i b (t ∷ ts) = go (eqb i t.id) (ents_with i b ts)
  where
    go : (q : Bool) → (entry_count (with_body i b ts) + length (entries (find_node i ts)) ≡ entry_count ts + length
        (entries (b ∷ []))) ⊎ ((entry_count (with_body i b ts) ≡ entry_count ts) × (find_node i ts ≡ [])) →
        (entry_count (cond q (record { id = i; body = b } ∷ ts) (t ∷ with_body i b ts)) + length
        (entries (cond q (t.body ∷ []) (find_node i ts))) ≡ entry_count (t ∷ ts) + length (entries (b ∷ [])))
        ⊎ ((entry_count (cond q (record { id = i; body = b } ∷ ts) (t ∷ with_body i b ts)) ≡ entry_count (t ∷ ts)) ×
        (cond q (t.body ∷ []) (find_node i ts) ≡ []))
    go true ih = inl (omega arith)
    go false ih = ⊎_elim (λ p. inl (omega arith)) (λ p. inr (omega (arith, p.0), p.1)) ih

ents_without : (i : ℕ) (ts : List Node) → entry_count (without_node i ts) ≤ entry_count ts
unfolding without_node entry_count
ents_without i [] = zero-le
ents_without i (t ∷ ts) = cond_both (λ (us : List Node). entry_count us ≤ length (entries (t.body ∷ [])) + entry_count ts)
    (eqb i t.id) ts (t ∷ without_node i ts) (λ e. omega arith) (λ e. let q = ents_without i ts in omega arith)

short_name : (m : Name) (es : List Entry) → length (without_name m es) ≤ length es
unfolding without_name
short_name m [] = zero-le
short_name m (e ∷ es) = cond_both (λ (us : List Entry). length us ≤ suc (length es)) (same m e.name) es (e ∷ without_name m es)
    (λ q. omega arith) (λ q. let r = short_name m es in omega arith)

-- a name that is there is one entry
name_less : (m : Name) (es : List Entry) → some_of (find_name m es) ≡ true → suc (length (without_name m es)) ≡ length es
unfolding without_name find_name some_of
name_less m [] h = absurd (false≢true h)
name_less m (e ∷ es) h = go (same m e.name) (name_less m es) h
  where
    go : (b : Bool) → (some_of (find_name m es) ≡ true → suc (length (without_name m es)) ≡ length es) →
        some_of (cond b (e.id ∷ []) (find_name m es)) ≡ true → suc (length (cond b es (e ∷ without_name m es))) ≡ suc (length es)
    go true ih g = refl
    go false ih g = ap suc (ih g)

drop_ents_less : (d : ℕ) (n : Name) (t : Tree) → some_of (named t d n) ≡ true →
    suc (entry_count (drop_entry d n t).nodes) ≤ entry_count t.nodes
unfolding entries find_name some_of
drop_ents_less d n t h =
    let es : List Entry = entries (body_of t d) in
    let q = name_less n es h in
    ⊎_elim (λ p. omega arith)
    (λ p. absurd (false≢true (subst (λ (bs : List Body). some_of (find_name n (entries bs)) ≡ true) p.1 h)))
    (ents_with d (dir (without_name n es)) t.nodes)

put_ents : (d : ℕ) (n : Name) (i : ℕ) (t : Tree) → entry_count (put_entry d n i t).nodes ≤ suc (entry_count t.nodes)
unfolding entries
put_ents d n i t =
    let es : List Entry = entries (body_of t d) in
    let x : Entry = record { name = n; id = i } in
    let q = length-append es (x ∷ []) in
    ⊎_elim (λ p. omega arith) (λ p. omega (arith, p.0)) (ents_with d (dir (es ++ (x ∷ []))) t.nodes)

-- cells apart
abbrev Apart : List ℕ → Type 0
Apart xs = cell_twice xs ≡ false

abbrev None : ℕ → List ℕ → Type 0
None x ys = is_in x ys ≡ true → ⊥

apart_parts : (xs ys : List ℕ) → Apart (xs ++ ys) → Apart xs × Apart ys × ((x : ℕ) → is_in x xs ≡ true → None x ys)
unfolding cell_twice is_in
apart_parts [] ys h = (refl, h, λ x p q. false≢true p)
apart_parts (x ∷ xs) ys h =
    let p = or_parts (is_in x (xs ++ ys)) (cell_twice (xs ++ ys)) h in
    let q = apart_parts xs ys p.1 in
    let r = or_parts (is_in x xs) (is_in x ys) (sym (in_append x xs ys) ∙ p.0) in (
      or_from (is_in x xs) (cell_twice xs) r.0 q.0,
      q.1,
      λ y a b. ⊎_elim
          (λ e. both_ways (is_in x ys) r.1 (subst (λ (z : ℕ). is_in z ys ≡ true) (eqb-true y x e) b)) (λ e. q.2 y e b)
          (or_cases (eqb y x) (is_in y xs) a),
    )

apart_join : (xs ys : List ℕ) → Apart xs → Apart ys → ((x : ℕ) → is_in x xs ≡ true → None x ys) → Apart (xs ++ ys)
unfolding cell_twice is_in
apart_join [] ys f g h = g
apart_join (x ∷ xs) ys f g h =
    let p = or_parts (is_in x xs) (cell_twice xs) f in
    let q : is_in x ys ≡ false = ⊎_elim (λ e. absurd (h x (or_left (eqb x x) (is_in x xs) (eq-eqb x x refl)) e)) (λ e. e)
    (cases_Bool (is_in x ys)) in
    or_from (is_in x (xs ++ ys)) (cell_twice (xs ++ ys)) (in_append x xs ys ∙ or_from (is_in x xs) (is_in x ys) p.0 q)
    (apart_join xs ys p.1 g (λ y a. h y (or_right (eqb y x) (is_in y xs) a)))

apart-take : (n : ℕ) (xs : List ℕ) → Apart xs → Apart (take n xs)
unfolding cell_twice
apart-take zero xs h = refl
apart-take (suc n) [] h = h
apart-take (suc n) (x ∷ xs) h =
    let p = or_parts (is_in x xs) (cell_twice xs) h in
    or_from (is_in x (take n xs)) (cell_twice (take n xs)) (⊎_elim (λ e. absurd (both_ways (is_in x xs) p.0 (in_take x n xs e)))
    (λ e. e) (cases_Bool (is_in x (take n xs)))) (apart-take n xs p.1)

apart_with : (i : ℕ) (b : Body) (ts : List Node) → Apart (all_cells ts) → Apart (cells (b ∷ [])) →
    ((x : ℕ) → is_in x (cells (b ∷ [])) ≡ true → (is_in x (cells (find_node i ts)) ≡ true) ⊎ None x (all_cells ts)) →
    Apart (all_cells (with_body i b ts))
unfolding with_body find_node all_cells
apart_with i b [] f g h = f
apart_with i b (t ∷ ts) f g h =
    let p = apart_parts (cells (t.body ∷ [])) (all_cells ts) f in
    go (eqb i t.id) p.1 p.2 h (λ r. apart_with i b ts p.1 g r) p.0
  where
    cs : List ℕ
    cs = cells (t.body ∷ [])

    go : (q : Bool) → Apart (all_cells ts) → ((x : ℕ) → is_in x cs ≡ true → None x (all_cells ts)) →
        ((x : ℕ) → is_in x (cells (b ∷ [])) ≡ true → (is_in x (cells (cond q (t.body ∷ []) (find_node i ts))) ≡ true) ⊎
        None x (cs ++ all_cells ts)) →
        (((x : ℕ) → is_in x (cells (b ∷ [])) ≡ true → (is_in x (cells (find_node i ts)) ≡ true) ⊎ None x (all_cells ts)) →
        Apart (all_cells (with_body i b ts))) → Apart cs →
        Apart (all_cells (cond q (record { id = i; body = b } ∷ ts) (t ∷ with_body i b ts)))
    go true at-ts dis r ih at-cs = apart_join (cells (b ∷ [])) (all_cells ts) g at-ts
        (λ x a e. ⊎_elim (λ u. dis x u e) (λ u. u (in_right x cs (all_cells ts) e)) (r x a))
    go false at-ts dis r ih at-cs =
        apart_join cs (all_cells (with_body i b ts)) at-cs
        (ih (λ x a. ⊎_elim (λ u. inl u) (λ u. inr (λ e. u (in_right x cs (all_cells ts) e))) (r x a)))
        (λ x a e. ⊎_elim (λ u. dis x a u) (λ u. ⊎_elim (λ v. dis x a (in_body x i ts v)) (λ v. v (in_left x cs (all_cells ts) a))
        (r x u)) (with_body_from x i b ts e))

apart_without : (i : ℕ) (ts : List Node) → Apart (all_cells ts) → Apart (all_cells (without_node i ts))
unfolding without_node all_cells
apart_without i [] f = f
apart_without i (t ∷ ts) f =
    let cs : List ℕ = cells (t.body ∷ []) in
    let p = apart_parts cs (all_cells ts) f in
    cond_both (λ (us : List Node). Apart (all_cells us)) (eqb i t.id) ts (t ∷ without_node i ts) (λ e. p.1)
    (λ e. apart_join cs (all_cells (without_node i ts)) p.0 (apart_without i ts p.1)
    (λ x a u. p.2 x a (without_node_from x i ts u)))

apart_dir : (i : ℕ) (es : List Entry) (ts : List Node) → Apart (all_cells ts) → Apart (all_cells (with_body i (dir es) ts))
unfolding cells is_in cell_twice
apart_dir i es ts f = apart_with i (dir es) ts f refl (λ x a. absurd (false≢true a))

all_cells-append : (ts us : List Node) → all_cells (ts ++ us) ≡ all_cells ts ++ all_cells us
unfolding all_cells
all_cells-append [] us = refl
all_cells-append (t ∷ ts) us = rw (all_cells-append ts us) (sym (append_assoc (cells (t.body ∷ [])) (all_cells ts) (all_cells us)))

-- what each small step leaves
-- ids ascend, whatever bodies there are; and fewer of them ascend too
rising_more : (a b : ℕ) (ts : List Node) → a ≤ b → rising b ts ≡ true → rising a ts ≡ true
unfolding rising
rising_more a b [] l h = refl
rising_more a b (t ∷ ts) l h =
    let p = and_parts (leb b t.id) (rising (suc t.id) ts) h in
    let q = leb-true b t.id p.0 in
    and_from (leb a t.id) (rising (suc t.id) ts) (le-leb a t.id (omega arith)) p.1

rising_with : (a i : ℕ) (b : Body) (ts : List Node) → rising a ts ≡ true → rising a (with_body i b ts) ≡ true
unfolding rising with_body
rising_with a i b [] h = refl
rising_with a i b (t ∷ ts) h =
    let p = and_parts (leb a t.id) (rising (suc t.id) ts) h in
    cond_both (λ (us : List Node). rising a us ≡ true) (eqb i t.id) (record { id = i; body = b } ∷ ts) (t ∷ with_body i b ts)
    (λ e. subst (λ (x : ℕ). (leb a x && rising (suc x) ts) ≡ true) (sym (eqb-true i t.id e)) h)
    (λ e. and_from (leb a t.id) (rising (suc t.id) (with_body i b ts)) p.0 (rising_with (suc t.id) i b ts p.1))

rising_without : (a i : ℕ) (ts : List Node) → rising a ts ≡ true → rising a (without_node i ts) ≡ true
unfolding rising without_node
rising_without a i [] h = refl
rising_without a i (t ∷ ts) h =
    let p = and_parts (leb a t.id) (rising (suc t.id) ts) h in
    let q = leb-true a t.id p.0 in
    cond_both (λ (us : List Node). rising a us ≡ true) (eqb i t.id) ts (t ∷ without_node i ts)
    (λ e. rising_more a (suc t.id) ts (omega arith) p.1)
    (λ e. and_from (leb a t.id) (rising (suc t.id) (without_node i ts)) p.0 (rising_without (suc t.id) i ts p.1))

rising_last : (a n : ℕ) (b : Body) (ts : List Node) → a ≤ n → every (ok_node n) ts ≡ true → rising a ts ≡ true →
    rising a (ts ++ (record { id = n; body = b } ∷ [])) ≡ true
unfolding rising every
rising_last a n b [] l o h = and_from (leb a n) true (le-leb a n l) refl
rising_last a n b (t ∷ ts) l o h =
    let p = and_parts (leb a t.id) (rising (suc t.id) ts) h in
    let q = and_parts (ok_node n t) (every (ok_node n) ts) o in
    let r = ltb-true t.id n (and_parts (ltb t.id n) (every (ok_entry n) (entries (t.body ∷ []))) q.0).0 in
    and_from (leb a t.id) (rising (suc t.id) (ts ++ (record { id = n; body = b } ∷ []))) p.0
    (rising_last (suc t.id) n b ts r q.1 p.1)

pub record Core (n room : ℕ) (ts : List Node) : Type 0 where
  pub ok : every (ok_node n) ts ≡ true
  pub ascend : rising 0 ts ≡ true
  pub apart : cell_twice (all_cells ts) ≡ false
  pub inside : (x : ℕ) → Has x ts → x < room

module _ (n room : ℕ) where
  core_dir : (i : ℕ) (es : List Entry) (ts : List Node) → Core n room ts → every (ok_entry n) es ≡ true →
      Core n room (with_body i (dir es) ts)
  unfolding entries cells is_in
  core_dir i es ts c h = record {
    ok = ok_with n i (dir es) ts c.ok h;
    ascend = rising_with 0 i (dir es) ts c.ascend;
    apart =
        apart_dir i es ts c.apart;
    inside = λ x a. c.inside x
        (⊎_elim (λ u. u) (λ u. absurd (false≢true u)) (with_body_from x i (dir es) ts a));
  }

  core_without : (i : ℕ) (ts : List Node) → Core n room ts → Core n room (without_node i ts)
  core_without i ts c = record {
    ok = ok_without n i ts c.ok;
    ascend = rising_without 0 i ts c.ascend;
    apart =
        apart_without i ts c.apart;
    inside = λ x a. c.inside x (without_node_from x i ts a);
  }

  core_put : (d : ℕ) (m : Name) (i : ℕ) (t : Tree) → Core n room t.nodes → ok_entry n (record { name = m; id = i }) ≡ true →
      Core n room (put_entry d m i t).nodes
  unfolding every
  core_put d m i t c h =
      let es : List Entry = entries (body_of t d) in
      let x : Entry = record { name = m; id = i } in
      core_dir d (es ++ (x ∷ [])) t.nodes c (every_append (ok_entry n) es (x ∷ []) (ok_find n d t.nodes c.ok)
      (and_from (ok_entry n x) true h refl))

  core_drop : (d : ℕ) (m : Name) (t : Tree) → Core n room t.nodes → Core n room (drop_entry d m t).nodes
  core_drop d m t c = core_dir d (without_name m (entries (body_of t d))) t.nodes c
      (ok_without_name n m (entries (body_of t d)) (ok_find n d t.nodes c.ok))

  core_removed : (d : ℕ) (m : Name) (i : ℕ) (t : Tree) → Core n room t.nodes → Core n room (removed d m i t).nodes
  core_removed d m i t c = core_without i (drop_entry d m t).nodes (core_drop d m t c)

  core_without_any : (d : ℕ) (m : Name) (js : List ℕ) (t : Tree) → Core n room t.nodes → Core n room (without_any d m js t).nodes
  unfolding without_any
  core_without_any d m [] t c = c
  core_without_any d m (j ∷ js) t c = core_removed d m j t c

ok_more : (n : ℕ) (t : Node) → ok_node n t ≡ true → ok_node (suc n) t ≡ true
ok_more n t h =
    let p = and_parts (ltb t.id n) (every (ok_entry n) (entries (t.body ∷ []))) h in
    and_from (ltb t.id (suc n)) (every (ok_entry (suc n)) (entries (t.body ∷ [])))
    (lt-ltb t.id (suc n) (let q = ltb-true t.id n p.0 in omega arith))
    (every_more (ok_entry n) (ok_entry (suc n)) (entries (t.body ∷ [])) (λ e g. let q =
    and_parts (ltb e.id n) (good_name e.name && bytes e.name) g in
    and_from (ltb e.id (suc n)) (good_name e.name && bytes e.name)
    (lt-ltb e.id (suc n) (let r = ltb-true e.id n q.0 in omega arith)) q.1) p.1)

-- a node more, with nothing in it
core_new : (n room : ℕ) (b : Body) (ts : List Node) → Core n room ts → cells (b ∷ []) ≡ [] → entries (b ∷ []) ≡ [] →
    Core (suc n) room (ts ++ (record { id = n; body = b } ∷ []))
unfolding every all_cells
core_new n room b ts c no_cells no_entries =
    let x : Node = record { id = n; body = b } in
    let same_cells : all_cells (ts ++ (x ∷ [])) ≡ all_cells ts = all_cells-append ts (x ∷ [])
    ∙ (ap (λ (ys : List ℕ). all_cells ts ++ (ys ++ [])) no_cells ∙ append-nil (all_cells ts)) in
    record {
      ok = every_append (ok_node (suc n)) ts (x ∷ []) (every_more (ok_node n) (ok_node (suc n)) ts (ok_more n) c.ok)
          (and_from (ok_node (suc n) x) true (and_from (ltb n (suc n)) (every (ok_entry (suc n)) (entries (b ∷ [])))
          (lt-ltb n (suc n) (omega arith)) (rw no_entries refl)) refl);
      ascend = rising_last 0 n b ts zero-le c.ok c.ascend;
      apart = rw same_cells c.apart;
      inside = λ y a. c.inside y (subst (λ (ys : List ℕ). is_in y ys ≡ true) same_cells a);
    }

-- names
named_there : (n : Name) (bs : List Body) → some_of (find_name n (entries bs)) ≡ true → some_of bs ≡ true
unfolding find_name entries some_of
named_there n [] h = h
named_there n (b ∷ bs) h = refl

named_some : (n : Name) (es : List Entry) → some_of (find_name n es) ≡ true → some_of es ≡ true
unfolding find_name some_of
named_some n [] h = h
named_some n (e ∷ es) h = refl

-- another name in a directory, where one is gone with what it named
named_stays : (d : ℕ) (n : Name) (e : ℕ) (m : Name) (j : ℕ) (t : Tree) → some_of (named t d n) ≡ true → (j ≡ d → ⊥) →
    ((d ≡ e) → (n ≡ m) → ⊥) → named (removed e m j t) d n ≡ named t d n
unfolding entries
named_stays d n e m j t h not-j not-both =
    let es : List Entry = entries (body_of t e) in
    let ts : List Node = with_body e (dir (without_name m es)) t.nodes in
    ap (λ (bs : List Body). find_name n (entries bs)) (find_without_other d j ts (λ q. not-j (sym q))) ∙ ⊎_elim
    (λ p. ap (λ (bs : List Body). find_name n (entries bs)) (ap (λ (x : ℕ). find_node x ts) p
    ∙ find_with e (dir (without_name m es)) t.nodes
    (named_there n (find_node e t.nodes) (subst (λ (x : ℕ). some_of (named t x n) ≡ true) p h)))
    ∙ (find_without_name n m es (⊎_elim (λ q. absurd (not-both p (same_is n m q))) (λ q. q) (cases_Bool (same n m)))
    ∙ ap (λ (x : ℕ). named t x n) (sym p)))
    (λ p. ap (λ (bs : List Body). find_name n (entries bs)) (find_with_other d e (dir (without_name m es)) t.nodes p))
    (cases_eq d e)

-- renaming leaves fewer entries than nodes
place_empty : (l : Limits) (t : Tree) (o i j : ℕ) (js : List ℕ) → in_place l t o i (j ∷ js) ≡ 0 → eqb i j ≡ false →
    some_of (entries (body_of t j)) ≡ false
unfolding in_place
place_empty l t o i j js p f =
    let b : Bool = (is_dir (body_of t i) && is_dir (body_of t j)) || (is_file (body_of t i) && is_file (body_of t j)) in
    let x : ℕ = cond (some_of (entries (body_of t j))) 7 (may_change l o) in
    let q : cond b x 7 ≡ 0 = subst (λ (c : Bool). cond c 0 (cond b x 7) ≡ 0) f p in
    (cond_else (some_of (entries (body_of t j))) (may_change l o) 6 (cond_then b x 6 q).1).0

moved_few : (l : Limits) (o d : ℕ) (n : Name) (e : ℕ) (m : Name) (t : Tree) → entry_count t.nodes < length t.nodes →
    some_of (named t d n) ≡ true →
    in_place l t o (first_of (named t d n)) (named t e m) ≡ 0 →
    (some_of (named t e m) && eqb (first_of (named t d n)) (first_of (named t e m))) ≡ false →
    entry_count (moved d n e m (first_of (named t d n)) t).nodes < length (moved d n e m (first_of (named t d n)) t).nodes
unfolding without_any some_of first_of
moved_few l o d n e m t f h p q = go (named t e m) refl p q
  where
    i : ℕ
    i = first_of (named t d n)

    after : (u : Tree) → some_of (named u d n) ≡ true →
        (entry_count (put_entry e m i (drop_entry d n u)).nodes ≤ entry_count u.nodes) ×
        (length (put_entry e m i (drop_entry d n u)).nodes ≡ length u.nodes)
    after u g =
        let v : Tree = drop_entry d n u in
        let a = drop_ents_less d n u g in
        let b = put_ents e m i v in (
          omega arith,
          length_with e (dir (entries (body_of v e) ++ (record { name = m; id = i } ∷ []))) v.nodes
              ∙ length_with d (dir (without_name n (entries (body_of u d)))) u.nodes,
        )

    go : (js : List ℕ) → named t e m ≡ js → in_place l t o i js ≡ 0 → (some_of js && eqb i (first_of js)) ≡ false →
        entry_count (put_entry e m i (drop_entry d n (without_any e m js t))).nodes < length
        (put_entry e m i (drop_entry d n (without_any e m js t))).nodes
    go [] w p q = let a = after t h in omega (arith, a.0, a.1)
    go (j ∷ js) w p q =
        let empty = place_empty l t o i j js p q in
        let u : Tree = removed e m j t in
        let not-j : j ≡ d → ⊥ =
        λ x. both_ways (some_of (entries (body_of t d))) (subst (λ (y : ℕ). some_of (entries (body_of t y)) ≡ false) x empty)
        (named_some n (entries (body_of t d)) h) in
        let not-both : (d ≡ e) → (n ≡ m) → ⊥ = λ x y. eqb-false i j q (ap first_of (ap₂ (named t) x y ∙ w)) in
        let a = after u (ap some_of (named_stays d n e m j t h not-j not-both) ∙ h) in
        let b = ents_without j (drop_entry e m t).nodes in
        let c = drop_ents_less e m t (ap some_of w) in
        let g = length_one_less j (drop_entry e m t).nodes in
        let k = length_with e (dir (without_name m (entries (body_of t e)))) t.nodes in
        omega (arith, a.0, a.1)

-- new cells are apart
rising_apart : (xs : List ℕ) → ((i j : ℕ) → i < j → j < length xs → at xs i < at xs j) → Apart xs
unfolding cell_twice
rising_apart [] h = refl
rising_apart (x ∷ xs) h =
    or_from (is_in x xs) (cell_twice xs)
    (⊎_elim (λ e. let q = in_at x xs e in let r : x < at xs q.0 = h 0 (suc q.0) (omega arith) (omega (arith, q.1)) in let v =
    q.2 in let z : ⊥ = omega arith in absurd z) (λ e. e) (cases_Bool (is_in x xs)))
    (rising_apart xs (λ i j p q. h (suc i) (suc j) (omega arith) (omega arith)))

-- a new tree fits
is_push : Kind → Bool
is_push nothing = false
is_push push_it = true
is_push (write_it x b) = false
is_push (keep_it xs) = false
is_push sync_it = false

cond_push : (b : Bool) → cond b nothing push_it ≡ push_it → b ≡ false
unfolding is_push
cond_push true e = absurd (false≢true (ap is_push e))
cond_push false e = refl

renaming_zero : (l : Limits) (t : Tree) (o e : ℕ) (m : Name) (is : List ℕ) → renaming l t o e m is ≡ 0 → (some_of is ≡ true) ×
    (in_place l t o (first_of is) (named t e m) ≡ 0)
unfolding renaming some_of first_of
renaming_zero l t o e m [] p = let z : ⊥ = omega arith in absurd z
renaming_zero l t o e m (i ∷ is) p =
    (refl, (cond_else (holds (2 * length t.nodes * suc (length t.nodes)) t i e) (in_place l t o i (named t e m)) 6 p).1)

removing_zero : (l : Limits) (t : Tree) (o : ℕ) (is : List ℕ) → removing l t o is ≡ 0 → some_of is ≡ true
unfolding removing some_of
removing_zero l t o [] p = let z : ⊥ = omega arith in absurd z
removing_zero l t o (i ∷ is) p = refl

any_next : (e : ℕ) (m : Name) (js : List ℕ) (t : Tree) → (without_any e m js t).next ≡ t.next
unfolding without_any
any_next e m [] t = refl
any_next e m (j ∷ js) t = refl

any_shorter : (e : ℕ) (m : Name) (js : List ℕ) (t : Tree) → length (without_any e m js t).nodes ≤ length t.nodes
unfolding without_any
any_shorter e m [] t = omega arith
any_shorter e m (j ∷ js) t = let a = length_without j (drop_entry e m t).nodes in let b =
    length_with e (dir (without_name m (entries (body_of t e)))) t.nodes in omega arith

apart_body : (i : ℕ) (ts : List Node) → Apart (all_cells ts) → Apart (cells (find_node i ts))
unfolding find_node all_cells cells cell_twice
apart_body i [] h = refl
apart_body i (t ∷ ts) h =
    let p = apart_parts (cells (t.body ∷ [])) (all_cells ts) h in
    cond_both (λ (bs : List Body). Apart (cells bs)) (eqb i t.id) (t.body ∷ []) (find_node i ts) (λ e. p.0)
    (λ e. apart_body i ts p.1)

module _ (l : Limits) (t : Tree) (o h : ℕ) (f : Fits l t) where
  core : Core t.next l.room t.nodes
  core = record { ok = f.ok; ascend = f.ascend; apart = f.apart; inside = f.inside }

  fits_made : (d : ℕ) (n : Name) (b : Body) → making l t o d n ≡ 0 → (good_name n && bytes n) ≡ true → cells (b ∷ []) ≡ [] →
      entries (b ∷ []) ≡ [] → Fits l (made d n b t)
  unfolding entry_count
  fits_made d n b e g no_cells no_entries =
      let big : Bool = ltb (length t.nodes) l.nodes_most && ltb t.next 4294967295 in
      let a = cond_then (is_dir (body_of t d)) (cond (some_of (named t d n)) 6 (cond big (may_change l o) 8)) 2 e in
      let c = cond_then big (may_change l o) 7 (cond_else (some_of (named t d n)) (cond big (may_change l o) 8) 5 a.1).1 in
      let k = and_parts (ltb (length t.nodes) l.nodes_most) (ltb t.next 4294967295) c.0 in
      let k0 = ltb-true (length t.nodes) l.nodes_most k.0 in
      let k1 = ltb-true t.next 4294967295 k.1 in
      let x : Node = record { id = t.next; body = b } in
      let ts : List Node = t.nodes ++ (x ∷ []) in
      let u : Tree = record { nodes = ts; next = suc t.next } in
      let r = core_put (suc t.next) l.room d n t.next u (core_new t.next l.room b t.nodes core no_cells no_entries)
      (and_from (ltb t.next (suc t.next)) (good_name n && bytes n) (lt-ltb t.next (suc t.next) (omega arith)) g) in
      let len : length (put_entry d n t.next u).nodes ≡ suc (length t.nodes) =
      length_with d (dir (entries (body_of u d) ++ (record { name = n; id = t.next } ∷ []))) ts
      ∙ (length-append t.nodes (x ∷ []) ∙ omega arith) in
      let en : entry_count ts ≡ entry_count t.nodes = entries-append t.nodes (x ∷ [])
      ∙ (ap (λ (es : List Entry). entry_count t.nodes + (length es + 0)) no_entries ∙ omega arith) in
      let pe = put_ents d n t.next u in
      let nf = f.named_few in
      record {
        few = omega arith;
        small = omega arith;
        ok = r.ok;
        ascend = r.ascend;
        named_few = omega arith;
        apart =
            r.apart;
        inside = r.inside;
      }

  fits_removed : (d : ℕ) (n : Name) → some_of (named t d n) ≡ true → Fits l (removed d n (first_of (named t d n)) t)
  fits_removed d n g =
      let i : ℕ = first_of (named t d n) in
      let r = core_removed t.next l.room d n i t core in
      let ds : List Node = (drop_entry d n t).nodes in
      let a = drop_ents_less d n t g in
      let b = ents_without i ds in
      let c = length_one_less i ds in
      let c' = length_without i ds in
      let k = length_with d (dir (without_name n (entries (body_of t d)))) t.nodes in
      let nf = f.named_few in
      let fw = f.few in
      record {
        few = omega arith;
        small = f.small;
        ok = r.ok;
        ascend = r.ascend;
        named_few = omega arith;
        apart = r.apart;
        inside =
            r.inside;
      }

  fits_moved : (d : ℕ) (n : Name) (e : ℕ) (m : Name) → some_of (named t d n) ≡ true → (good_name m && bytes m) ≡ true →
      in_place l t o (first_of (named t d n)) (named t e m) ≡ 0 →
      (some_of (named t e m) && eqb (first_of (named t d n)) (first_of (named t e m))) ≡ false →
      Fits l (moved d n e m (first_of (named t d n)) t)
  fits_moved d n e m g gm p q =
      let i : ℕ = first_of (named t d n) in
      let js : List ℕ = named t e m in
      let u : Tree = without_any e m js t in
      let v : Tree = drop_entry d n u in
      let small-i : i < t.next = ok_named t.next n (entries (body_of t d)) (ok_find t.next d t.nodes f.ok) g in
      let r = core_put t.next l.room e m i v
      (core_drop t.next l.room d n u (core_without_any t.next l.room e m js t core))
      (and_from (ltb i t.next) (good_name m && bytes m) (lt-ltb i t.next small-i) gm) in
      let same_next : u.next ≡ t.next = any_next e m js t in
      let len : length (put_entry e m i v).nodes ≡ length u.nodes =
      length_with e (dir (entries (body_of v e) ++ (record { name = m; id = i } ∷ []))) v.nodes
      ∙ length_with d (dir (without_name n (entries (body_of u d)))) u.nodes in
      let less = any_shorter e m js t in
      let fw = f.few in
      record {
        few = omega arith;
        small = subst (λ (x : ℕ). x ≤ 4294967295) (sym same_next) f.small;
        ok = subst (λ (x : ℕ). every (ok_node x) (put_entry e m i v).nodes ≡ true) (sym same_next) r.ok;
        ascend = r.ascend;
        named_few = moved_few l o d n e m t f.named_few g p q;
        apart = r.apart;
        inside = r.inside;
      }

  new_none : (new : List ℕ) → ((j : ℕ) → j < length new → (at new j < l.room) × (is_in (at new j) (all_cells t.nodes) ≡ false)) →
      (x : ℕ) → is_in x new ≡ true → (x < l.room) × None x (all_cells t.nodes)
  new_none new fresh x a =
      let q = in_at x new a in
      let w = fresh q.0 q.1 in (
        subst (λ (y : ℕ). y < l.room) q.2 w.0,
        λ b. both_ways (is_in x (all_cells t.nodes))
            (subst (λ (y : ℕ). is_in y (all_cells t.nodes) ≡ false) q.2 w.1) b,
      )

  fits_sized : (i n : ℕ) (new : List ℕ) → is_file (body_of t i) ≡ true →
      ((j : ℕ) → j < length new → (at new j < l.room) × (is_in (at new j) (all_cells t.nodes) ≡ false)) → Apart new →
      Fits l (put_body i (file (take n (cells (body_of t i)) ++ new)) t)
  unfolding cells entries every
  fits_sized i n new fi fresh ap-new =
      let cs : List ℕ = cells (body_of t i) in
      let b : Body = file (take n cs ++ new) in
      let k = length_with i b t.nodes in
      let nf = f.named_few in
      let fw = f.few in
      let en : entry_count (with_body i b t.nodes) ≤ entry_count t.nodes = ⊎_elim (λ p. omega arith) (λ p. omega (arith, p.0))
      (ents_with i b t.nodes) in
      let nn = new_none new fresh in
      let from : (x : ℕ) → is_in x (take n cs ++ new) ≡ true → (is_in x cs ≡ true) ⊎ (is_in x new ≡ true) =
      λ x a. ⊎_elim (λ u. inl (in_take x n cs u)) (λ u. inr u) (in_either x (take n cs) new a) in
      record {
        few = omega arith;
        small = f.small;
        ok = ok_with t.next i b t.nodes f.ok refl;
        ascend = rising_with 0 i b t.nodes f.ascend;
        named_few = omega arith;
        apart = apart_with i b t.nodes f.apart
            (apart_join (take n cs) new (apart-take n cs (apart_body i t.nodes f.apart)) ap-new
            (λ x a u. (nn x u).1 (in_body x i t.nodes (in_take x n cs a))))
            (λ x a. ⊎_elim (λ u. inl u) (λ u. inr (nn x u).1) (from x a));
        inside = λ x a. ⊎_elim (λ u. f.inside x u) (λ u. ⊎_elim (λ v. f.inside x (in_body x i t.nodes v)) (λ v. (nn x v).0)
            (from x u)) (with_body_from x i b t.nodes a);
      }

goods : (a b : Bool) → (a && b) ≡ true → b ≡ true
goods a b h = (and_parts a b h).1

pub fits_next : (l : Limits) (t : Tree) (o h : ℕ) (new : List ℕ) (c : Call) → Sized l → readable c ≡ true → refusal l t o h c ≡ 0 →
    kind t c ≡ push_it → Fits l t →
    length new ≡ more t c →
    ((j : ℕ) → j < length new → (at new j < l.room) × (is_in (at new j) (all_cells t.nodes) ≡ false)) →
    ((i j : ℕ) → i < j → j < length new → at new i < at new j) →
    Fits l (next_tree t new c)
unfolding next_tree refusal_by readable good_fields call_number kind cells entries
fits_next l t o h new c gl rd re ki f len fresh rising = go c rd ki byte.1 byte.0
  where
    byte : ((l.calls_can (call_number c) && good_fields c) ≡ true) × (refusal_by l t o h c ≡ 0)
    byte = cond_then (l.calls_can (call_number c) && good_fields c) (refusal_by l t o h c) 1
        (cond_else (eqb (call_number c) 255) (cond (l.calls_can (call_number c) && good_fields c) (refusal_by l t o h c) 2) 0 re).1

    go : (c : Call) → readable c ≡ true → kind t c ≡ push_it → refusal_by l t o h c ≡ 0 →
        (l.calls_can (call_number c) && good_fields c) ≡ true → Fits l (next_tree t new c)
    go (find d n) rd ki r g = f
    go (make_file d n) rd ki r g =
        fits_made l t o h f d n (file []) r (and_from (good_name n) (bytes n) (goods (l.calls_can 1) (good_name n) g)
        (goods (eight d) (bytes n) rd)) refl refl
    go (make_dir d n) rd ki r g =
        fits_made l t o h f d n (dir []) r (and_from (good_name n) (bytes n) (goods (l.calls_can 2) (good_name n) g)
        (goods (eight d) (bytes n) rd)) refl refl
    go (remove d n) rd ki r g =
        fits_removed l t o h f d n
        (removing_zero l t o (named t d n) (cond_then (is_dir (body_of t d)) (removing l t o (named t d n)) 2 r).1)
    go (rename d n e m) rd ki r g =
        let z = renaming_zero l t o e m (named t d n) (cond_then (is_dir (body_of t e)) (renaming l t o e m (named t d n)) 2
        (cond_then (is_dir (body_of t d)) (a_dir t e (renaming l t o e m (named t d n))) 2 r).1).1 in
        fits_moved l t o h f d n e m z.0
        (and_from (good_name m) (bytes m)
        (goods (good_name n) (good_name m) (goods (l.calls_can 4) (good_name n && good_name m) g))
        (goods (eight e) (bytes m) (goods (eight d && bytes n) (eight e && bytes m) rd)))
        z.1 (cond_push (some_of (named t e m) && eqb (first_of (named t d n)) (first_of (named t e m))) ki)
    go (list d k) rd ki r g = f
    go (size i) rd ki r g = f
    go (read i p) rd ki r g = f
    go (write i p b) rd ki r g = f
    go (resize i n) rd ki r g =
        let k : ℕ = length (cells (body_of t i)) in
        fits_sized l t o h f i n new
        (cond_then (is_file (body_of t i)) (cond (eqb n k) 0 (cond (leb (h + (n - k)) l.room) (may_change l o) 8)) 3 r).0 fresh
        (rising_apart new rising)
    go (sync_file i) rd ki r g = f
    go sync_tree rd ki r g = f
    go (garbled n) rd ki r g = f
