-- What is reached lies below directory 0; and law 11: no node is in itself, in every tree that power may bring back.
use Rattle.std.proofs.Common.{◌≡◌, ℕ, ◌<◌, ◌≤◌, Bool, true, false, List, [], ◌∷◌, refl, ◌∙◌, inl, inr, arith}
use Rattle.std.proofs.lemmas.Bool.{cases_eq, cases_Bool, cond-false}
use Rattle.model.specs.Tree.{Name, same, Entry, Tree, find_name}
use Rattle.model.specs.Laws.{root as at_top, tree_at, Below, Inside, NotInItself, entry_of, just, deeper}
use Rattle.laws.proofs.Paths.{root, below, Reach, depth}
use Rattle.laws.proofs.Gaps.{at_most_once}
use Rattle.laws.proofs.Names.{Well}
use Rattle.laws.proofs.Depth.{one_depth}
use Rattle.laws.proofs.Sound.{with_id}
use Rattle.laws.proofs.Entries.{at, at_same, at_other, same_refl, sum, sum_without, of_name, of_id, called, named_self}
use Rattle.laws.proofs.Reach.{named_there, all_good}

called_same : (n m : Name) → same n m ≡ true → called n m ≡ 1
unfolding called
called_same n m h = rw h

-- an entry that is there is found by its name, since no other has that
name_for : (i : ℕ) (es : List Entry) → ((n : Name) → of_name n es ≤ 1) → 0 < of_id i es → (n : Name) × (find_name n es ≡ i ∷ [])
unfolding sum find_name
name_for i [] f p = absurd (omega arith)
name_for i (e ∷ es) f p =
    elim (cases_eq i e.id) [
      | inl z ↦ (e.name, rw (same_refl e.name, z))
      | inr ne ↦ (let (n, q) = name_for i es (λ m. omega (arith, f m)) (omega (arith, at_other i e.id ne)) in
          (n, cond-false _ _ _ (apart n q) ∙ q))
    ]
  where
    apart : (n : Name) → find_name n es ≡ i ∷ [] → same n e.name ≡ false
    apart n q =
        elim (cases_Bool (same n e.name)) [
          | inl h ↦ absurd (omega (arith, f n, called_same n e.name h, sum_without (λ y _. called n y) n es i [] q, named_self n))
          | inr h ↦ h
        ]

pub named_in : (n : Name) (es : List Entry) (i : ℕ) (is : List ℕ) → find_name n es ≡ i ∷ is → 0 < of_id i es
named_in n es i is p = omega (arith, sum_without (λ _ k. at i k) n es i is p, at_same i)

pub lies_below : (t : Tree) (i : ℕ) → Well t → Reach t.nodes i → Below t i
lies_below t _ a root = at_top
lies_below t _ a (below d i r p) =
    let (n, q) = name_for i _ (λ n. at_most_once (λ _. 0) t.next t.nodes a d n) p in
    entry_of d i n (lies_below t d a r) q

-- what is inside a node lies deeper
deeper_by : (t : Tree) (i j : ℕ) (r : Reach t.nodes i) → Inside t i j → (q : Reach t.nodes j) × (depth r < depth q)
unfolding depth
deeper_by t i _ r (just j n p) = (below i j r (named_in n _ j [] p), omega arith)
deeper_by t i _ r (deeper d j n f p) =
    let (q, h) = deeper_by t i d r f in
    (below d j q (named_in n _ j [] p), omega arith)

inside_there : (t : Tree) (i j : ℕ) → Well t → Inside t i j → 0 < with_id j t.nodes
inside_there t i _ a (just j n p) = named_there i n j [] t.next t.nodes p a
inside_there t i _ a (deeper d j n f p) = named_there d n j [] t.next t.nodes p a

pub not_in_itself : (can : ℕ → Bool) → NotInItself can
unfolding NotInItself
not_in_itself can l hs s good r n i f =
    let (a, b, _) = all_good l hs s r n in
    let top : Reach (tree_at s n).nodes i = b i (inside_there (tree_at s n) i i a f) in
    let (q, h) = deeper_by (tree_at s n) i i top f in
    omega (arith, one_depth (tree_at s n).next (tree_at s n).nodes a i i refl top q)
