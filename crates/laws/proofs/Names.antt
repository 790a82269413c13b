-- Each change of a tree keeps it sound; and in a sound tree each name is there once in its directory and names a node that is
-- there, and each node but directory 0 is named once.
use Rattle.std.proofs.Common.{◌≡◌, ℕ, suc, ◌+◌, ◌-◌, ◌<◌, true, false, cond, eqb, List, [], ◌∷◌, ◌++◌, sym, refl, ap, ◌∙◌, ap₂, le_trans, le_of_eq, arith}
use Rattle.model.specs.Tree.{Name, Entry, Node, Tree, new_tree, some_of, find_node, body_of, is_dir, is_file, entries, find_name}
use Rattle.model.specs.Tree.{without_name, with_body, put_body, dir, file}
use Rattle.model.specs.Refusals.{Limits}
use Rattle.model.specs.Laws.{twice, all_there, in_entries, times_named}
use Rattle.model_facts.proofs.Nodes.{dir_some, find_with_other}
use Rattle.laws.proofs.Changes.{Change, grown, fewer, moved_free, moved_over}
use Rattle.laws.proofs.Totals.{total, of_found, if_found, total_with, find-append}
use Rattle.laws.proofs.Entries.{at, at_other, sum, of_name, of_id, names_apart, all_found}
use Rattle.laws.proofs.Sound.{at_cases, over, names_of, Sound, id_with, found_over, found_id, id_found, unlinks, links, drops, adds}
use Rattle.laws.proofs.Gaps.{still_dir, not_empty, at_most_once, still_free, gap, gap_d, gap_e, gap_n, gap_m, gap_well}

-- from one name to another that is free
relinks : (w d : ℕ) (n : Name) (e : ℕ) (m : Name) (i : ℕ) (is : List ℕ) (ts : List Node) → is_dir (find_node d ts) ≡ true →
    is_dir (find_node e ts) ≡ true →
    find_name n (entries (find_node d ts)) ≡ i ∷ is → find_name m (entries (find_node e ts)) ≡ [] → Sound (λ _. 0) w ts →
    let us : List Node = with_body d (dir (without_name n (entries (find_node d ts)))) ts in
    Sound (λ _. 0) w (with_body e (dir (entries (find_node e us) ++ (record { name = m; id = i } ∷ []))) us)
relinks w d n e m i is ts x y p q a =
    let es : List Entry = without_name n (entries (find_node d ts)) in
    links (λ _. 0) w e m i _ (still_dir d es ts x e y) (still_free d n e m ts x q) (unlinks (λ _. 0) w d n i is ts x p a)

over_file : (g : List Entry → ℕ) (i : ℕ) (cs : List ℕ) (ts : List Node) → g [] ≡ 0 → is_file (find_node i ts) ≡ true →
    over g (with_body i (file cs) ts) ≡ over g ts
unfolding entries is_file of_found if_found
over_file g i cs ts z h = let t = total_with (λ _ b. g (entries (b ∷ []))) i (file cs) ts in grind arith

abbrev pub Well : Tree → Type 0
Well t = Sound (λ _. 0) t.next t.nodes

-- changes of a tree, and a file that gets other cells
pub well_change : (l : Limits) (t u : Tree) → Change l t u → Well t → Well u
well_change l t u (grown d n b p q x y z) a =
    let k : ℕ = t.next in
    let f : find_node d (t.nodes ++ (record { id = k; body = b } ∷ [])) ≡ find_node d t.nodes =
    find-append d t.nodes _ (dir_some _ x) in
    links (λ _. 0) (suc k) d n k _ (rw f x) (rw f y) (adds (λ _. 0) k b t.nodes p a)
well_change l t u (fewer d n i is x y z) a =
    let old : List Node = t.nodes in
    drops (λ _. 0) t.next i _
    (rw (find_with_other i d (dir (without_name n (entries (find_node d old)))) old (λ e. not_empty i d n i is old z y (sym e))) z)
    (unlinks (λ _. 0) t.next d n i is old x y a)
well_change l t u (moved_free d n e m i is o x y p q) a = relinks t.next d n e m i is t.nodes x y p q a
well_change l t u (moved_over d n e m i is j js o x y p q r z) a =
    let old : List Node = t.nodes in
    relinks t.next d n e m i is (gap old e m j)
    (gap_d _ old d n e m i is j js x y p q r z a) (gap_e _ old d n e m i is j js x y p q r z a)
    (gap_n _ old d n e m i is j js x y p q r z a) (gap_m _ old d n e m i is j js x y p q r z a)
    (gap_well _ old d n e m i is j js x y p q r z a)

pub well_sized : (t : Tree) (i : ℕ) (cs : List ℕ) → is_file (body_of t i) ≡ true → Well t → Well (put_body i (file cs) t)
unfolding entries sum
well_sized t i cs x a =
    let old : List Node = t.nodes in
    record {
      once = λ k. le_trans (le_of_eq (id_with k i _ old)) (a.once k);
      low = λ k p. id_with k i _ old ∙ a.low k p;
      even = λ k. ap (λ u. u + (at k 0 + 0)) (over_file (of_id k) i _ old refl x) ∙ a.even k ∙ sym (id_with k i _ old);
      apart = λ m. over_file (λ u. of_name m u - 1) i _ old refl x ∙ a.apart m;
    }

pub new_well : Well new_tree
unfolding total entries sum
new_well =
    record {
      once = λ k. omega (arith, at_cases k 0);
      low = λ k p. omega (arith, at_other k 0 (λ e. omega arith));
      even = λ k. omega arith;
      apart = λ m. refl;
    }

in_is : (k : ℕ) (es : List Entry) → in_entries k es ≡ of_id k es
unfolding sum at in_entries
in_is k [] = refl
in_is k (e ∷ es) = ap (λ h. cond (eqb k e.id) 1 0 + h) (in_is k es)

pub names_total : (k : ℕ) (ts : List Node) → times_named k ts ≡ names_of k ts
unfolding times_named total
names_total k [] = refl
names_total k (t ∷ ts) = ap₂ (λ a b. a + b) (in_is k (entries (t.body ∷ []))) (names_total k ts)

-- of one tree
pub well_names : (t : Tree) → Well t → (d : ℕ) →
    (twice (entries (body_of t d)) ≡ false) × (all_there t (entries (body_of t d)) ≡ true)
unfolding sum
well_names t a d = (
  names_apart _ (λ n. at_most_once (λ _. 0) t.next t.nodes a d n),
  all_found t _ (λ k h. found_id k t.nodes (omega (arith, found_over (of_id k) d t.nodes refl, a.even k))),
)

pub well_named : (t : Tree) → Well t → (i : ℕ) → 0 < i → some_of (body_of t i) ≡ true → times_named i t.nodes ≡ 1
well_named t a i p h =
    names_total i t.nodes ∙ omega (arith, a.even i, a.once i, id_found i t.nodes h, at_other i 0 (λ e. omega arith))
