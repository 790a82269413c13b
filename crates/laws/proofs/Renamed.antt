-- A node renamed over another, which is empty: the new name names it, and it is what it was.
use Rattle.std.proofs.Common.{◌≡◌, ℕ, Bool, true, cond, eqb, List, [], ◌∷◌, ◌++◌, sym, ap, ◌∙◌, inl, inr, arith}
use Rattle.std.proofs.lemmas.Bool.{cases_eq}
use Rattle.model.specs.Tree.{Name, Entry, Body, Node, Tree, find_node, body_of, is_dir, entries, find_name, named, without_name}
use Rattle.model.specs.Tree.{with_body}
use Rattle.model.specs.Tree.{put_entry, drop_entry, removed, dir, some_of, first_of, without_any}
use Rattle.model.specs.Calls.{rename}
use Rattle.model.specs.Fs.{Fs, push, changed}
use Rattle.model_facts.proofs.Nodes.{find_with_other, find_without_other}
use Rattle.laws.proofs.Gaps.{here, still_dir, not_empty, still_free, gap, gap_d, gap_e, gap_m}
use Rattle.laws.proofs.Names.{Well}
use Rattle.laws.proofs.Entries.{same_refl}

named_dir : (n : Name) (bs : List Body) (i : ℕ) (is : List ℕ) → find_name n (entries bs) ≡ i ∷ is → is_dir bs ≡ true
unfolding is_dir entries find_name
named_dir n bs i is h = grind arith

find_last : (n : Name) (es : List Entry) (i : ℕ) → find_name n es ≡ [] → find_name n (es ++ (record { name = n; id = i } ∷ [])) ≡ i ∷ []
unfolding find_name
find_last n [] i h = rw (same_refl n)
find_last n (e ∷ es) i h = let ih = find_last n es i in grind arith

-- a test that tells no directories apart says the same of every node after a directory's entries changed
like_dirs : (P : List Body → Bool) (k d : ℕ) (es : List Entry) (ts : List Node) → is_dir (find_node d ts) ≡ true →
    ((bs : List Body) → is_dir bs ≡ true → P (dir es ∷ []) ≡ P bs) → P (find_node k (with_body d (dir es) ts)) ≡ P (find_node k ts)
like_dirs P k d es ts h f =
    elim (cases_eq k d) [
      | inl z ↦ rw z (ap P (here d es ts h) ∙ f _ h)
      | inr ne ↦ ap P (find_with_other k d (dir es) ts ne)
    ]

module _ (t : Tree) (i j d e : ℕ) (x y : Name) (is js : List ℕ) (a : Well t) (p : named t d x ≡ i ∷ is) (q : named t e y ≡ j ∷ js)
    (ne : i ≡ j → ⊥) (zj : entries (body_of t j) ≡ []) where
  abbrev over : Tree
  over = put_entry e y i (drop_entry d x (removed e y j t))

  abbrev old : List Node
  old = t.nodes

  xd : is_dir (find_node d old) ≡ true
  xd = named_dir x _ i is p

  xe : is_dir (find_node e old) ≡ true
  xe = named_dir y _ j js q

  abbrev us : List Node
  us = gap old e y j

  gd : is_dir (find_node d us) ≡ true
  gd = gap_d t.next old d x e y i is j js xd xe p q ne zj a

  ge : is_dir (find_node e us) ≡ true
  ge = gap_e t.next old d x e y i is j js xd xe p q ne zj a

  abbrev es : List Entry
  es = without_name x (entries (find_node d us))

  pub named_over : named over e y ≡ i ∷ []
  unfolding entries
  named_over =
      rw (here e _ (with_body d (dir es) us) (still_dir d es us gd e ge))
      (find_last y _ i (still_free d x e y us gd (gap_m t.next old d x e y i is j js xd xe p q ne zj a)))

  pub body_over : entries (body_of t i) ≡ [] → body_of over i ≡ body_of t i
  body_over zi =
      let ie : i ≡ e → ⊥ = λ z. not_empty i e y j js old zi q (sym z) in
      let id : i ≡ d → ⊥ = λ z. not_empty i d x i is old zi p (sym z) in
      find_with_other i e _ _ ie ∙ (find_with_other i d _ _ id ∙ (find_without_other i j _ ne ∙ find_with_other i e _ _ ie))

  pub kind_over : (P : List Body → Bool) → ((es : List Entry) (bs : List Body) → is_dir bs ≡ true → P (dir es ∷ []) ≡ P bs) →
      P (body_of over i) ≡ P (body_of t i)
  kind_over P f =
      like_dirs P i e _ _ (still_dir d es us gd e ge) (f _) ∙ (like_dirs P i d es us gd (f _)
      ∙ (ap P (find_without_other i j _ ne) ∙ like_dirs P i e _ old xe (f _)))

-- what a rename over another node changes
pub renamed : (s : Fs) (i j d e : ℕ) (x y : Name) (is js : List ℕ) → named s.tree d x ≡ i ∷ is → named s.tree e y ≡ j ∷ js →
    changed s (rename d x e y) ≡ cond (eqb i j) s (push (put_entry e y i (drop_entry d x (removed e y j s.tree))) s)
unfolding changed first_of some_of without_any
renamed s i j d e x y is js p q = rw (p, q)
