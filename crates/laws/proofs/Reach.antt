-- Each step keeps that every node is reached from directory 0, and that this is a directory: so every tree that power may bring
-- back has that.
use Rattle.std.proofs.Common.{◌≡◌, ℕ, ◌+◌, ◌<◌, ◌≤◌, true, List, [], ◌∷◌, ◌++◌, sym, refl, ◌∙◌, subst, inl, inr, le_trans, le_of_eq, arith}
use Rattle.std.proofs.lemmas.Bool.{both_ways, cases_eq, cases_Bool}
use Rattle.model.specs.Tree.{Name, Body, Node, Tree, new_tree, some_of, find_node, body_of, is_dir, is_file, entries, find_name, named}
use Rattle.model.specs.Tree.{without_name, with_body, put_body, put_entry, drop_entry, removed, dir, file}
use Rattle.model.specs.Calls.{Call}
use Rattle.model.specs.Refusals.{Limits}
use Rattle.model.specs.Fs.{Fs}
use Rattle.model.specs.World.{Happening}
use Rattle.model.specs.Promise.{Explains}
use Rattle.model.specs.Laws.{tree_at}
use Rattle.model_facts.proofs.Nodes.{dir_some, find_with_other, find_without_other}
use Rattle.laws.proofs.Gaps.{here, still_dir, entries_by, gap, gap_d, gap_e, gap_n}
use Rattle.laws.proofs.Names.{Well, well_change, well_sized, new_well}
use Rattle.laws.proofs.Paths.{root, below, in_dir, Reach, Descent, Reached, descent_below, stays, down}
use Rattle.laws.proofs.Each.{ever_each}
use Rattle.laws.proofs.Totals.{none, total, total-append, find-append}
use Rattle.laws.proofs.Depth.{not_zero}
use Rattle.laws.proofs.InItself.{test_tells}
use Rattle.laws.proofs.Sound.{with_id, Sound, id_with, some_in, found_over, found_id, id_without, id_found, at_cases}
use Rattle.laws.proofs.Entries.{at, at_same, at_other, sum, sum-append, sum_without, sum-fewer, of_id}
use Rattle.laws.proofs.Changes.{Change, grown, fewer, moved_free, moved_over}
use Rattle.laws.proofs.Steps.{Step, still, changes, wrote, file_synced, sized, synced}

-- every entry but those of one node is kept
abbrev Kept : List Node → List Node → ℕ → Type 0
Kept ts us i = (d x : ℕ) → (x ≡ i → ⊥) → 0 < in_dir ts d x → 0 < in_dir us d x

-- so what is not in that node is still reached, and all is, if that node is
avoids : (ts us : List Node) (i x : ℕ) → Kept ts us i → (Descent ts x i → ⊥) → Reach ts x → Reach us x
avoids ts us i _ f out root = root
avoids ts us i _ f out (below d x r p) =
    below d x (avoids ts us i d f (λ z. out (descent_below ts d x i z p)) r) (f d x (λ z. out (subst (λ y. Descent ts x y) z stays)) p)

follows : (ts us : List Node) (i x : ℕ) → Kept ts us i → Reach us i → Reach ts x → Reach us x
follows ts us i _ f a root = root
follows ts us i _ f a (below d x r p) = elim (cases_eq x i) [ inl z ↦ rw z a | inr ne ↦ below d x (follows ts us i d f a r) (f d x ne p) ]

there : (d : ℕ) (ts : List Node) → is_dir (find_node d ts) ≡ true → 0 < with_id d ts
there d ts h = id_found d ts (dir_some _ h)

-- what a name names is there
pub named_there : (d : ℕ) (n : Name) (i : ℕ) (is : List ℕ) (w : ℕ) (ts : List Node) → find_name n (entries (find_node d ts)) ≡ i ∷ is →
    Sound (λ _. 0) w ts → 0 < with_id i ts
unfolding sum
named_there d n i is w ts p a =
    omega (
      arith,
      a.even i,
      found_over (of_id i) d ts refl,
      sum_without (λ _ k. at i k) n (entries (find_node d ts)) i is p,
      at_same i,
    )

-- a name dropped, and a name put
module _ (d : ℕ) (n : Name) (i : ℕ) (ts : List Node) (h : is_dir (find_node d ts) ≡ true) where
  abbrev less : List Node
  less = with_body d (dir (without_name n (entries (find_node d ts)))) ts

  abbrev more : List Node
  more = with_body d (dir (entries (find_node d ts) ++ (record { name = n; id = i } ∷ []))) ts

  less_keeps : (is : List ℕ) → find_name n (entries (find_node d ts)) ≡ i ∷ is → (f x : ℕ) → (x ≡ i → ⊥) → in_dir ts f x ≤ in_dir less f x
  less_keeps is p f x ne =
      entries_by d _ ts h (λ r. in_dir ts f x ≤ of_id x r) f
      (λ z. rw z (omega (arith, sum_without (λ _ k. at x k) n (entries (find_node d ts)) i is p, at_other x i ne))) (omega arith)

  less_less : (f x : ℕ) → in_dir less f x ≤ in_dir ts f x
  less_less f x =
      entries_by d _ ts h (λ r. of_id x r ≤ in_dir ts f x) f (λ z. rw z (sum-fewer (λ _ k. at x k) n (entries (find_node d ts))))
      (omega arith)

  more_keeps : (f x : ℕ) → in_dir ts f x ≤ in_dir more f x
  more_keeps f x = entries_by d _ ts h (λ r. in_dir ts f x ≤ of_id x r) f (λ z. rw (z, sum-append) (omega arith)) (omega arith)

  more_has : 0 < in_dir more d i
  unfolding entries sum
  more_has = rw (here d _ ts h) (rw (sum-append, at_same) (omega arith))

relinked : (d : ℕ) (n : Name) (e : ℕ) (m : Name) (i : ℕ) (is : List ℕ) (ts : List Node) (x : is_dir (find_node d ts) ≡ true)
    (y : is_dir (find_node e ts) ≡ true) →
    find_name n (entries (find_node d ts)) ≡ i ∷ is → (Descent ts e i → ⊥) → Reached ts →
    Reached (more e m i (less d n i ts x) (still_dir d _ ts x e y))
relinked d n e m i is ts x y p out a z h =
    let us : List Node = less d n i ts x in
    let ye : is_dir (find_node e us) ≡ true = still_dir d _ ts x e y in
    let vs : List Node = more e m i us ye in
    let kept : Kept ts vs i = λ f k ne q. omega (arith, less_keeps d n i ts x is p f k ne, more_keeps e m i us ye f k) in
    follows ts vs i z kept (below e i (avoids ts vs i e kept out (a e (there e ts y))) (more_has e m i us ye))
    (a z (le_trans h (le_of_eq (id_with z e _ us ∙ id_with z d _ ts))))

-- a node with nothing in it goes
module _ (e : ℕ) (m : Name) (j : ℕ) (js : List ℕ) (w : ℕ) (ts : List Node) (y : is_dir (find_node e ts) ≡ true)
    (q : find_name m (entries (find_node e ts)) ≡ j ∷ js)
    (z : entries (find_node j ts) ≡ []) (a : Sound (λ _. 0) w ts) where
  empty : (x : ℕ) → in_dir ts j x ≡ 0
  unfolding sum
  empty x = rw z

  gap_keeps : (f x : ℕ) → (f ≡ j → ⊥) → (x ≡ j → ⊥) → in_dir ts f x ≤ in_dir (gap ts e m j) f x
  gap_keeps f x fj xj = rw (find_without_other f j (less e m j ts y) fj) (less_keeps e m j ts y js q f x xj)

  leaves : (x : ℕ) → (x ≡ j → ⊥) → Reach ts x → Reach (gap ts e m j) x
  leaves _ ne root = root
  leaves _ ne (below d x r p) =
      let dj : d ≡ j → ⊥ = λ c. omega (arith, empty x, rw c at p) in
      below d x (leaves d dj r) (le_trans p (gap_keeps d x dj ne))

  gap_id : (x : ℕ) → with_id x (gap ts e m j) + at x j ≡ with_id x ts
  gap_id x =
      id_without x j (less e m j ts y) (found_id j _ (le_trans (named_there e m j js w ts q a) (le_of_eq (sym (id_with j e _ ts)))))
      ∙ id_with x e _ ts

  no_j : find_node j (gap ts e m j) ≡ []
  no_j =
      elim (cases_Bool (some_of (find_node j (gap ts e m j)))) [
        | inl h ↦ absurd (omega (arith, id_found j (gap ts e m j) h, gap_id j, at_same j, a.once j))
        | inr h ↦ none _ h
      ]

  gap_less : (f x : ℕ) → in_dir (gap ts e m j) f x ≤ in_dir ts f x
  unfolding entries sum
  gap_less f x =
      elim (cases_eq f j) [
        | inl c ↦ rw (c, no_j) (omega arith)
        | inr ne ↦ rw (find_without_other f j (less e m j ts y) ne) (less_less e m j ts y f x)
      ]

  gap_descent : (v u : ℕ) → Descent (gap ts e m j) v u → Descent ts v u
  gap_descent v _ stays = stays
  gap_descent v _ (down i x p r) = down i x (le_trans p (gap_less i x)) (gap_descent v x r)

  dropped : Reached ts → Reached (gap ts e m j)
  dropped r x h = leaves x (λ c. omega (arith, rw c at h, gap_id j, at_same j, a.once j)) (r x (omega (arith, gap_id x)))

all_kept : (ts us : List Node) (x : ℕ) → ((f z : ℕ) → 0 < in_dir ts f z → 0 < in_dir us f z) → Reach ts x → Reach us x
all_kept ts us _ f root = root
all_kept ts us _ f (below d x r p) = below d x (all_kept ts us d f r) (f d x p)

-- a new node
added : (d : ℕ) (n : Name) (k : ℕ) (b : Body) (ts : List Node) (h : is_dir (find_node d ts) ≡ true) →
    (y : is_dir (find_node d (ts ++ (record { id = k; body = b } ∷ []))) ≡ true) →
    Reached ts → Reached (more d n k (ts ++ (record { id = k; body = b } ∷ [])) y)
unfolding total sum
added d n k b ts h y r x p =
    let us : List Node = ts ++ (record { id = k; body = b } ∷ []) in
    let kept : (f z : ℕ) → 0 < in_dir ts f z → 0 < in_dir (more d n k us y) f z =
    λ f z q. le_trans (rw (find-append f ts (record { id = k; body = b } ∷ []) (some_in (of_id z) (find_node f ts) refl q)) q)
    (more_keeps d n k us y f z) in
    elim (at_cases x k) [
      | inl c ↦ all_kept ts (more d n k us y) x kept
          (r x (omega (
            arith,
            id_with x d (dir (entries (find_node d us) ++ (record { name = n; id = k } ∷ []))) us,
            total-append (λ i _. at x i) ts (record { id = k; body = b } ∷ []),
          )))
      | inr c ↦ rw c.1 (below d k (all_kept ts (more d n k us y) d kept (r d (there d ts h))) (more_has d n k us y))
    ]

-- a file has no entries, before and after
file_kept : (i : ℕ) (cs : List ℕ) (ts : List Node) (f u : ℕ) → is_file (find_node i ts) ≡ true → 0 < in_dir ts f u →
    0 < in_dir (with_body i (file cs) ts) f u
unfolding entries sum is_file
file_kept i cs ts f u h p =
    elim (cases_eq f i) [ inl c ↦ (let p2 = rw c at p in absurd (grind arith)) | inr ne ↦ rw (find_with_other f i (file cs) ts ne) p ]

-- changes of a tree, and a file that gets other cells
pub reached_change : (l : Limits) (t u : Tree) → Change l t u → Well t → Reached t.nodes → Reached u.nodes
reached_change l t u (grown d n b p q x y z) a r =
    let f : find_node d (t.nodes ++ (record { id = t.next; body = b } ∷ [])) ≡ find_node d t.nodes =
    find-append d t.nodes _ (dir_some _ x) in
    added d n t.next b t.nodes x (rw f x) r
reached_change l t u (fewer d n i is x y z) a r = dropped d n i is t.next t.nodes x y z a r
reached_change l t u (moved_free d n e m i is o x y p q) a r =
    relinked d n e m i is t.nodes x y p
    (λ c. both_ways _ o (test_tells t e i a r c (named_there d n i is t.next t.nodes p a))) r
reached_change l t u (moved_over d n e m i is j js o x y p q v z) a r =
    let k : ℕ = t.next in
    let old : List Node = t.nodes in
    relinked d n e m i is (gap old e m j)
    (gap_d k old d n e m i is j js x y p q v z a) (gap_e k old d n e m i is j js x y p q v z a)
    (gap_n k old d n e m i is j js x y p q v z a)
    (λ c. both_ways _ o (test_tells t e i a r (gap_descent e m j js k old y q z a e i c) (named_there d n i is k old p a)))
    (dropped e m j js k old y q z a r)

pub reached_sized : (t : Tree) (i : ℕ) (cs : List ℕ) → is_file (body_of t i) ≡ true → Reached t.nodes →
    Reached (put_body i (file cs) t).nodes
reached_sized t i cs x r v h =
    all_kept t.nodes _ v (λ f u p. file_kept i cs t.nodes f u x p) (r v (le_trans h (le_of_eq (id_with v i _ t.nodes))))

-- directory 0 stays a directory: it has no name by which it could go
nameless : (d : ℕ) (n : Name) (i : ℕ) (is : List ℕ) (t : Tree) → named t d n ≡ i ∷ is → Well t → 0 ≡ i → ⊥
nameless d n i is t p a z =
    not_zero t.next t.nodes a d
    (omega (arith, sum_without (λ _ k. at 0 k) n (entries (body_of t d)) i is p, subst (λ k. at 0 k ≡ 1) z (at_same 0)))

gap_dir : (e : ℕ) (m : Name) (j : ℕ) (js : List ℕ) (t : Tree) → is_dir (body_of t e) ≡ true → named t e m ≡ j ∷ js → Well t →
    is_dir (body_of t 0) ≡ true → is_dir (find_node 0 (gap t.nodes e m j)) ≡ true
gap_dir e m j js t y q a b =
    rw (find_without_other 0 j _ (nameless e m j js t q a)) (still_dir e _ t.nodes y 0 b)

moved_dir : (d : ℕ) (n : Name) (e : ℕ) (m : Name) (i : ℕ) (t : Tree) → is_dir (body_of t d) ≡ true → is_dir (body_of t e) ≡ true →
    is_dir (body_of t 0) ≡ true → is_dir (body_of (put_entry e m i (drop_entry d n t)) 0) ≡ true
moved_dir d n e m i t x y b = still_dir e _ _ (still_dir d _ t.nodes x e y) 0 (still_dir d _ t.nodes x 0 b)

pub root_change : (l : Limits) (t u : Tree) → Change l t u → Well t → is_dir (body_of t 0) ≡ true → is_dir (body_of u 0) ≡ true
root_change l t u (grown d n b p q x y z) a r =
    let f : (k : ℕ) → is_dir (body_of t k) ≡ true → is_dir (find_node k (t.nodes ++ (record { id = t.next; body = b } ∷ []))) ≡ true =
    λ k h. rw (find-append k t.nodes (record { id = t.next; body = b } ∷ []) (dir_some _ h)) h in
    still_dir d _ _ (f d x) 0 (f 0 r)
root_change l t u (fewer d n i is x y z) a r = gap_dir d n i is t x y a r
root_change l t u (moved_free d n e m i is o x y p q) a r = moved_dir d n e m i t x y r
root_change l t u (moved_over d n e m i is j js o x y p q v z) a r =
    moved_dir d n e m i (removed e m j t) (gap_d t.next t.nodes d n e m i is j js x y p q v z a)
    (gap_e t.next t.nodes d n e m i is j js x y p q v z a) (gap_dir e m j js t y q a r)

pub root_sized : (t : Tree) (i : ℕ) (cs : List ℕ) → is_file (body_of t i) ≡ true → is_dir (body_of t 0) ≡ true →
    is_dir (body_of (put_body i (file cs) t) 0) ≡ true
unfolding is_dir is_file
root_sized t i cs x r =
    rw (find_with_other 0 i (file cs) t.nodes (λ z. let y : is_dir (body_of t i) ≡ true = rw z at r in grind arith)) r

-- what every tree has that power may bring back
abbrev pub Good : Tree → Type 0
Good t = Well t × Reached t.nodes × (is_dir (body_of t 0) ≡ true)

pub good_change : (l : Limits) (t u : Tree) → Change l t u → Good t → Good u
good_change l t u r g =
    (well_change l t u r g.0, reached_change l t u r g.0 g.1, root_change l t u r g.0 g.2)

pub good_sized : (t : Tree) (i : ℕ) (cs : List ℕ) → is_file (body_of t i) ≡ true → Good t → Good (put_body i (file cs) t)
good_sized t i cs x g = (well_sized t i cs x g.0, reached_sized t i cs x g.1, root_sized t i cs x g.2)

next : (l : Limits) (s t : Fs) (c : Call) → Step l s c t → Good s.tree → Good t.tree
next l s t _ still g = g
next l s t _ (changes u w) g = good_change l s.tree t.tree u g
next l s t _ (wrote i p b h) g = g
next l s t _ (file_synced i) g = g
next l s t _ (sized i n x y w) g = good_sized s.tree i _ x g
next l s t _ synced g = g

first : Reached new_tree.nodes
unfolding total
first x h = elim (at_cases x 0) [ inl c ↦ absurd (omega arith) | inr c ↦ rw c.1 root ]

pub good_new : Good new_tree
unfolding find_node is_dir
good_new = (new_well, first, refl)

pub all_good : (l : Limits) (hs : List Happening) (s : Fs) → Explains l hs s → (n : ℕ) → Good (tree_at s n)
all_good l hs s r n = ever_each l (λ _ t. Good t) (λ _ _ _ _ g. g) good_new (next l) hs s r n

pub well : (l : Limits) (hs : List Happening) (s : Fs) → Explains l hs s → Well s.tree
well l hs s r = (all_good l hs s r 0).0
