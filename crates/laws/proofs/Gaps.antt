-- What a change of a directory leaves: which nodes are directories still, and which names are there; and a tree from which a
-- name went with the node that it named, a gap for another.
use Rattle.std.proofs.Common.{◌≡◌, ℕ, ◌-◌, ◌≤◌, true, false, List, [], ◌∷◌, sym, refl, ◌∙◌, inl, inr, arith}
use Rattle.std.proofs.lemmas.Bool.{cases_eq, cases_Bool}
use Rattle.model.specs.Tree.{Name, same, Entry, Node, find_node, is_dir, entries, find_name, without_name, without_node}
use Rattle.model.specs.Tree.{with_body, dir}
use Rattle.model_facts.proofs.Nodes.{dir_some, find_with, find_with_other, find_without_other}
use Rattle.model_facts.proofs.Names.{same_is, find_without_name}
use Rattle.laws.proofs.Entries.{called, sum, sum_without, of_name, not_named, none_left, named_self}
use Rattle.laws.proofs.Sound.{Sound, found_over, unlinks, drops}

-- a directory after a change of a directory
module _ (d : ℕ) (es : List Entry) (ts : List Node) (h : is_dir (find_node d ts) ≡ true) where
  pub here : find_node d (with_body d (dir es) ts) ≡ dir es ∷ []
  here = find_with d (dir es) ts (dir_some _ h)

  pub still_dir : (e : ℕ) → is_dir (find_node e ts) ≡ true → is_dir (find_node e (with_body d (dir es) ts)) ≡ true
  unfolding is_dir
  still_dir e p = elim (cases_eq e d) [ inl z ↦ rw (z, here) | inr ne ↦ rw (find_with_other e d (dir es) ts ne) p ]

  -- what all lists of entries have that it was, and that it is now, it still has
  pub entries_by : (P : List Entry → Type 0) (e : ℕ) → (e ≡ d → P es) → P (entries (find_node e ts)) →
      P (entries (find_node e (with_body d (dir es) ts)))
  unfolding entries
  entries_by P e f p = elim (cases_eq e d) [ inl z ↦ rw (z, here) (f z) | inr ne ↦ rw (find_with_other e d (dir es) ts ne) p ]

-- an empty node is not a directory that has a name in it
pub not_empty : (i d : ℕ) (n : Name) (j : ℕ) (js : List ℕ) (ts : List Node) → entries (find_node i ts) ≡ [] →
    find_name n (entries (find_node d ts)) ≡ j ∷ js → d ≡ i → ⊥
unfolding find_name
not_empty i d n j js ts p q z = let f : find_name n [] ≡ j ∷ js = rw (z, p) at q in let a : ◌≡◌ {A = ℕ} 0 1 = cc in omega arith

pub at_most_once : (x : ℕ → ℕ) (w : ℕ) (ts : List Node) → Sound x w ts → (d : ℕ) (n : Name) → of_name n (entries (find_node d ts)) ≤ 1
unfolding sum
at_most_once x w ts a d n = omega (arith, found_over (λ es. of_name n es - 1) d ts refl, a.apart n)

differ : (n m : Name) (es : List Entry) (i j : ℕ) (is js : List ℕ) → find_name n es ≡ i ∷ is → find_name m es ≡ j ∷ js → (i ≡ j → ⊥) →
    same n m ≡ false
differ n m es i j is js p q r = elim (cases_Bool (same n m)) [ inl h ↦ (let e = same_is n m h in absurd (r (cc))) | inr h ↦ h ]

pub still_free : (d : ℕ) (n : Name) (e : ℕ) (m : Name) (ts : List Node) → is_dir (find_node d ts) ≡ true →
    find_name m (entries (find_node e ts)) ≡ [] →
    find_name m (entries (find_node e (with_body d (dir (without_name n (entries (find_node d ts)))) ts))) ≡ []
still_free d n e m ts x q = entries_by d _ ts x (λ r. find_name m r ≡ []) e (λ z. none_left m n _ (rw z at q)) q

-- what a name named is gone
abbrev pub gap : List Node → ℕ → Name → ℕ → List Node
gap old e m j = without_node j (with_body e (dir (without_name m (entries (find_node e old)))) old)

module _ (k : ℕ) (old : List Node) (d : ℕ) (n : Name) (e : ℕ) (m : Name) (i : ℕ) (is : List ℕ) (j : ℕ) (js : List ℕ)
    (x : is_dir (find_node d old) ≡ true) (y : is_dir (find_node e old) ≡ true)
    (p : find_name n (entries (find_node d old)) ≡ i ∷ is) (q : find_name m (entries (find_node e old)) ≡ j ∷ js)
    (r : i ≡ j → ⊥) (z : entries (find_node j old) ≡ []) (a : Sound (λ _. 0) k old) where
  abbrev es : List Entry
  es = without_name m (entries (find_node e old))

  in-gap : (f : ℕ) → (f ≡ j → ⊥) → find_node f (gap old e m j) ≡ find_node f (with_body e (dir es) old)
  in-gap f ne = find_without_other f j (with_body e (dir es) old) ne

  je : e ≡ j → ⊥
  je = not_empty j e m j js old z q

  jd : d ≡ j → ⊥
  jd = not_empty j d n i is old z p

  pub gap_d : is_dir (find_node d (gap old e m j)) ≡ true
  gap_d = rw (in-gap d jd) (still_dir e es old y d x)

  pub gap_e : is_dir (find_node e (gap old e m j)) ≡ true
  gap_e = rw (in-gap e je) (still_dir e es old y e y)

  pub gap_n : find_name n (entries (find_node d (gap old e m j))) ≡ i ∷ is
  gap_n =
      rw (in-gap d jd)
      (entries_by e es old y (λ u. find_name n u ≡ i ∷ is) d
      (λ c. let pe = rw c at p in find_without_name n m _ (differ n m _ i j is js pe q r) ∙ pe) p)

  pub gap_m : find_name m (entries (find_node e (gap old e m j))) ≡ []
  unfolding entries
  gap_m =
      rw (in-gap e je) (rw (here e es old y)
      (not_named m es (omega (
        arith,
        sum_without (λ u _. called m u) m (entries (find_node e old)) j js q,
        named_self m,
        at_most_once (λ _. 0) k old a e m,
      ))))

  pub gap_well : Sound (λ _. 0) k (gap old e m j)
  gap_well = drops (λ _. 0) k j _ (rw (find_with_other j e (dir es) old (λ c. je (sym c))) z) (unlinks (λ _. 0) k e m j js old y q a)
