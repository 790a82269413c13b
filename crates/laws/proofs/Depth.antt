-- In a tree where each node but directory 0 is named once, each node that is reached has one depth, which is less than the
-- number of nodes; a directory has at most as many entries as there are nodes, and all together have fewer.
use Rattle.std.proofs.Common.{◌≡◌, ℕ, suc, ◌+◌, ◌<◌, ◌≤◌, cond, eqb, List, [], ◌∷◌, ◌++◌, length, refl, ap, inl, inr, le_trans, le_of_eq, arith, length-append}
use Rattle.std.proofs.lemmas.Bool.{ne_eqb, cases_eq, cases_lt}
use Rattle.std.proofs.lemmas.Bool.Decides.{nat_tests}
use Rattle.model.specs.Tree.{Entry, Node, find_node, entries, without_node}
use Rattle.model_facts.proofs.Nodes.{find_without_other}
use Rattle.laws.proofs.Sound.{with_id, over, names_of, Sound, found_over, found_left}
use Rattle.laws.proofs.Entries.{at_same, sum, of_id, at}
use Rattle.laws.proofs.Distinct.{occ, occ-append, fits_in}
use Rattle.laws.proofs.Paths.{in_dir, Reach, depth, root, below}
use Rattle.laws.proofs.Totals.{total}

-- ids of nodes, and of entries

unfoldable node_ids : List Node → List ℕ
node_ids [] = []
node_ids (t ∷ ts) = t.id ∷ node_ids ts

unfoldable entry_ids : List Entry → List ℕ
entry_ids [] = []
entry_ids (e ∷ es) = e.id ∷ entry_ids es

length-node_ids : (ts : List Node) → length (node_ids ts) ≡ length ts
unfolding node_ids
length-node_ids [] = refl
length-node_ids (t ∷ ts) = ap suc (length-node_ids ts)

length-entry_ids : (es : List Entry) → length (entry_ids es) ≡ length es
unfolding entry_ids
length-entry_ids [] = refl
length-entry_ids (e ∷ es) = ap suc (length-entry_ids es)

occ_node_ids : (c : ℕ) (ts : List Node) → occ c (node_ids ts) ≡ with_id c ts
unfolding node_ids occ total at
occ_node_ids c [] = refl
occ_node_ids c (t ∷ ts) = ap (λ (h : ℕ). cond (eqb c t.id) 1 0 + h) (occ_node_ids c ts)

occ_entry_ids : (c : ℕ) (es : List Entry) → occ c (entry_ids es) ≡ of_id c es
unfolding entry_ids occ sum at
occ_entry_ids c [] = refl
occ_entry_ids c (e ∷ es) = ap (λ (h : ℕ). cond (eqb c e.id) 1 0 + h) (occ_entry_ids c es)

-- of all entries
unfoldable all_ids : List Node → List ℕ
all_ids [] = []
all_ids (t ∷ ts) = entry_ids (entries (t.body ∷ [])) ++ all_ids ts

length_all_ids : (ts : List Node) → length (all_ids ts) ≡ over length ts
unfolding all_ids total
length_all_ids [] = refl
length_all_ids (t ∷ ts) = simp length-append (omega (arith, length-entry_ids (entries (t.body ∷ [])), length_all_ids ts))

occ_all_ids : (c : ℕ) (ts : List Node) → occ c (all_ids ts) ≡ names_of c ts
unfolding all_ids total occ
occ_all_ids c [] = refl
occ_all_ids c (t ∷ ts) =
    simp occ-append (omega (arith, occ_entry_ids c (entries (t.body ∷ [])), occ_all_ids c ts))

-- two directories together have no more than all
two_over : (g : List Entry → ℕ) (d e : ℕ) (ts : List Node) → g [] ≡ 0 → (d ≡ e → ⊥) →
    g (entries (find_node d ts)) + g (entries (find_node e ts)) ≤ over g ts
two_over g d e ts z ne =
    omega (
      arith,
      found_left g e ts z,
      rw (find_without_other d e ts ne) at (found_over g d (without_node e ts) z),
    )

module _ (w : ℕ) (ts : List Node) (a : Sound (λ _. 0) w ts) where
  -- what is in a directory is there, and in no other
  there_in : (d x : ℕ) → 0 < in_dir ts d x → 0 < with_id x ts
  unfolding sum
  there_in d x p = omega (arith, a.even x, found_over (of_id x) d ts refl)

  at_most_one : (d x : ℕ) → in_dir ts d x ≤ 1
  unfolding sum
  at_most_one d x = omega (arith, a.even x, a.once x, found_over (of_id x) d ts refl)

  one_parent : (d e x : ℕ) → 0 < in_dir ts d x → 0 < in_dir ts e x → d ≡ e
  unfolding sum
  one_parent d e x p q =
      elim (cases_eq d e) [
        | inl z ↦ z
        | inr ne ↦ absurd (omega (arith, a.even x, a.once x, two_over (of_id x) d e ts refl ne))
      ]

  pub not_zero : (d : ℕ) → 0 < in_dir ts d 0 → ⊥
  unfolding sum
  not_zero d p = omega (arith, a.even 0, a.once 0, at_same 0, found_over (of_id 0) d ts refl)

  root_there : 0 < with_id 0 ts
  root_there = omega (arith, a.even 0, at_same 0)

  reached_there : (x : ℕ) → Reach ts x → 0 < with_id x ts
  reached_there _ root = root_there
  reached_there _ (below d x r p) = there_in d x p

  -- a directory has at most as many entries as there are nodes
  pub few_entries : (d : ℕ) → length (entries (find_node d ts)) ≤ length ts
  few_entries d =
      let es : List Entry = entries (find_node d ts) in
      omega (
        arith,
        length-node_ids ts,
        length-entry_ids es,
        fits_in (entry_ids es) (node_ids ts)
            (λ c. le_trans (le_of_eq (occ_entry_ids c es)) (at_most_one d c))
            (λ c h. rw occ_node_ids (there_in d c (rw occ_entry_ids at h))),
      )

  -- and all have fewer, since directory 0 has no name
  pub fewer_names : over length ts < length ts
  unfolding occ at
  fewer_names =
      omega (
        arith,
        length-node_ids ts,
        length_all_ids ts,
        fits_in (0 ∷ all_ids ts) (node_ids ts)
            (λ c. omega (arith, occ_all_ids c ts, a.even c, a.once c))
            (λ c h. rw occ_node_ids (omega (arith, occ_all_ids c ts, a.even c))),
      )

  -- each node has one depth
  pub one_depth : (x y : ℕ) → x ≡ y → (r : Reach ts x) (s : Reach ts y) → depth r ≡ depth s
  unfolding depth
  one_depth _ _ z root root = refl
  one_depth _ _ z root (below e y s q) = absurd (not_zero e (rw (← z) at q))
  one_depth _ _ z (below d x r p) root = absurd (not_zero d (rw z at p))
  one_depth _ _ z (below d x r p) (below e y s q) =
      ap suc (one_depth d e (one_parent d e y (rw z at p) q) r s)

  -- the nodes from one up to directory 0: all different, since each is less deep than the one before
  chain : (x : ℕ) → Reach ts x → List ℕ
  chain _ root = 0 ∷ []
  chain _ (below d x r p) = x ∷ chain d r

  length_chain : (x : ℕ) (r : Reach ts x) → length (chain x r) ≡ suc (depth r)
  unfolding depth chain
  length_chain _ root = refl
  length_chain _ (below d x r p) = ap suc (length_chain d r)

  -- what is in it is reached, and no deeper
  in-chain : (x c : ℕ) (r : Reach ts x) → 0 < occ c (chain x r) → (q : Reach ts c) × (depth q ≤ depth r)
  unfolding depth chain occ
  in-chain _ c root h = elim (cases_eq c 0) [ inl z ↦ rw z (root, omega arith) | inr ne ↦ absurd (grind (arith, nat_tests)) ]
  in-chain _ c (below d x r p) h =
      elim (cases_eq c x) [
        | inl z ↦ rw z (below d x r p, omega arith)
        | inr ne ↦ (let (q, k) = in-chain d c r (omega (arith, rw (ne_eqb c x ne) at h)) in (q, omega arith))
      ]

  chain_once : (x c : ℕ) (r : Reach ts x) → occ c (chain x r) ≤ 1
  unfolding depth chain occ
  chain_once _ c root = grind (arith, nat_tests)
  chain_once _ c (below d x r p) =
      elim (cases_eq c x) [
        | inl z ↦ rw z (elim (cases_lt 0 (occ x (chain d r))) [
          | inl h ↦ (let (q, k) = in-chain d x r h in absurd (omega (arith, one_depth x x refl q (below d x r p))))
          | inr h ↦ grind (arith, nat_tests)
        ])
        | inr ne ↦ (let ih = chain_once d c r in grind (arith, nat_tests))
      ]

  pub shallow : (x : ℕ) (r : Reach ts x) → depth r < length ts
  shallow x r =
      omega (
        arith,
        length_chain x r,
        length-node_ids ts,
        fits_in (chain x r) (node_ids ts) (λ c. chain_once x c r) (λ c h. rw occ_node_ids (reached_there c (in-chain x c r h).0)),
      )
