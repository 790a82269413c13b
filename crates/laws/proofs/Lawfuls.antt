-- Trees that the laws allow. Where ids are apart, and below the next one, being lawful is being sound, with all nodes reached
-- from directory 0: so each change of a tree keeps it lawful, and every tree that power may bring back is. Laws 1, 2, 10, 16.
use Rattle.std.proofs.Common.{◌≡◌, ℕ, ◌+◌, ◌-◌, ◌<◌, ◌≤◌, Bool, true, false, List, [], ◌∷◌, refl, ◌∙◌, subst, inl, inr, arith}
use Rattle.std.proofs.lemmas.Bool.{eq-eqb, ne_eqb, both_ways, cases_eq, cases_Bool, cases_lt}
use Rattle.model.specs.Tree.{Name, Entry, Node, Tree, new_tree, some_of, find_node, body_of, is_file, entries, put_body, file}
use Rattle.model.specs.Refusals.{Limits}
use Rattle.model.specs.Laws.{Below, root, entry_of, Lawful, NamesOnce, NamedOnce, AllBelow, AllLawful}
use Rattle.model_facts.proofs.Nodes.{dir_some}
use Rattle.laws.proofs.Paths.{root as reach_root, below, Reach}
use Rattle.laws.proofs.Changes.{Change}
use Rattle.laws.proofs.Names.{well_names, well_named, names_total}
use Rattle.laws.proofs.Reach.{Good, good_new, good_change, good_sized, all_good}
use Rattle.laws.proofs.Below.{lies_below, named_in}
use Rattle.laws.proofs.Totals.{total}
use Rattle.laws.proofs.Sound.{with_id, over, names_of, some_in, found_id, id_found}
use Rattle.laws.proofs.Entries.{at, at_same, at_other, sum, of_name, of_id, apart_names, found_all}

-- ids are apart, and below the next one
pub record Ids (t : Tree) : Type 0 where
  pub once : (k : ℕ) → with_id k t.nodes ≤ 1
  pub low : (k : ℕ) → t.next ≤ k → with_id k t.nodes ≡ 0

-- what all directories have together, one that is found has, where ids are apart
has_some : (g : List Entry → ℕ) (ts : List Node) → g [] ≡ 0 → ((k : ℕ) → with_id k ts ≤ 1) → 0 < over g ts →
    (d : ℕ) × (0 < g (entries (find_node d ts)))
unfolding total find_node
has_some g [] z f h = absurd (omega arith)
has_some g (t ∷ ts) z f h =
    elim (cases_lt 0 (g (entries (t.body ∷ [])))) [
      | inl p ↦ (t.id, rw (eq-eqb t.id t.id refl) p)
      | inr p ↦ (let (d, q) = has_some g ts z (λ k. omega (arith, f k)) (omega arith) in
          (d, rw (ne_eqb d t.id (λ e. omega (arith, f d, subst (λ i. at d i ≡ 1) e (at_same d), id_found d ts (some_in g _ z q)))) q))
    ]

-- a lawful tree whose ids are apart is sound, and all its nodes are reached
reach_of : (t : Tree) (i : ℕ) → Below t i → Reach t.nodes i
reach_of t _ root = reach_root
reach_of t _ (entry_of d i n b p) = below d i (reach_of t d b) (named_in n _ i [] p)

module _ (t : Tree) (ids : Ids t) (a : Lawful t) where
  abbrev ts : List Node
  ts = t.nodes

  no_more : (i : ℕ) → some_of (body_of t i) ≡ false → with_id i ts ≡ 0
  no_more i h =
      elim (cases_lt 0 (with_id i ts)) [ inl p ↦ absurd (both_ways _ h (found_id i ts p)) | inr p ↦ omega arith ]

  -- what is not there has no name
  unnamed : (i : ℕ) → some_of (body_of t i) ≡ false → names_of i ts ≡ 0
  unfolding sum
  unnamed i h =
      elim (cases_lt 0 (names_of i ts)) [
        | inl p ↦ (let (d, q) = has_some (of_id i) ts refl ids.once p in
            absurd (both_ways _ h (found_all t _ (a.names_there d) i q)))
        | inr p ↦ omega arith
      ]

  named : (i : ℕ) → names_of i ts + (at i 0 + 0) ≡ with_id i ts
  named i =
      elim (cases_Bool (some_of (body_of t i))) [
        | inl h ↦ elim (cases_eq i 0) [
          | inl z ↦ rw z (omega (arith, names_total 0 ts, a.root_nameless, at_same 0, ids.once 0, id_found 0 ts (dir_some _ a.root)))
          | inr ne ↦ omega (arith, names_total i ts, a.named_once i (omega arith) h, at_other i 0 ne, ids.once i, id_found i ts h)
        ]
        | inr h ↦ omega (arith, unnamed i h, no_more i h, at_other i 0 (λ z. both_ways _ (rw z at h) (dir_some _ a.root)))
      ]

  once_each : (n : Name) → over (λ es. of_name n es - 1) ts ≡ 0
  unfolding sum
  once_each n =
      elim (cases_lt 0 (over (λ es. of_name n es - 1) ts)) [
        | inl p ↦ (let (d, q) = has_some (λ es. of_name n es - 1) ts refl ids.once p in
            absurd (omega (arith, apart_names _ (a.names_once d) n)))
        | inr p ↦ omega arith
      ]

  pub good_of : Good t
  good_of = (
    record { once = ids.once; low = ids.low; even = named; apart = once_each },
    λ i h. reach_of t i (a.all_below i (found_id i ts h)),
    a.root,
  )

-- and back
pub lawful_of : (t : Tree) → Good t → Lawful t
lawful_of t g =
    record {
      root = g.2;
      root_nameless = names_total 0 t.nodes ∙ omega (arith, g.0.even 0, g.0.once 0, at_same 0);
      names_once = λ d. (well_names t g.0 d).0;
      names_there = λ d. (well_names t g.0 d).1;
      named_once = well_named t g.0;
      all_below = λ i h. lies_below t i g.0 (g.1 i (id_found i t.nodes h));
    }

-- the first tree, and each change of one: nodes made, removed and renamed, and a file that gets other cells
pub lawful_new : Lawful new_tree
lawful_new = lawful_of new_tree good_new

pub lawful_change : (l : Limits) (t u : Tree) → Change l t u → Ids t → Lawful t → Lawful u
lawful_change l t u r ids a = lawful_of u (good_change l t u r (good_of t ids a))

pub lawful_sized : (t : Tree) (i : ℕ) (cs : List ℕ) → is_file (body_of t i) ≡ true → Ids t → Lawful t → Lawful (put_body i (file cs) t)
lawful_sized t i cs x ids a = lawful_of (put_body i (file cs) t) (good_sized t i cs x (good_of t ids a))

-- the laws
pub all_lawful : (can : ℕ → Bool) → AllLawful can
unfolding AllLawful
all_lawful can l hs s good r n = lawful_of _ (all_good l hs s r n)

pub names_once : (can : ℕ → Bool) → NamesOnce can
unfolding NamesOnce AllLawful
names_once can l hs s good r d = let a = all_lawful can l hs s good r 0 in (a.names_once d, a.names_there d)

pub named_once : (can : ℕ → Bool) → NamedOnce can
unfolding NamedOnce AllLawful
named_once can l hs s good r = (all_lawful can l hs s good r 0).named_once

pub all_below : (can : ℕ → Bool) → AllBelow can
unfolding AllBelow AllLawful
all_below can l hs s good r n = (all_lawful can l hs s good r n).all_below
