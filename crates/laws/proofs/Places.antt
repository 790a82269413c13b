-- Each place of a file has a cell of its own, and there is such a cell.

-- two nodes together have no more than all
use Rattle.std.proofs.Common.{◌≡◌, ℕ, zero, suc, ◌+◌, ◌<◌, ◌≤◌, List, [], ◌∷◌, length, get_or, sym, refl, ap, inl, inr, arith}
use Rattle.std.proofs.lemmas.Bool.{cases_eq}
use Rattle.std.proofs.lemmas.Bool.Decides.{nat_tests}
use Rattle.model.specs.Tree.{Body, Node, find_node, cells, without_node}
use Rattle.model_facts.proofs.Nodes.{find_without_other}
use Rattle.laws.proofs.Apart.{Apart}
use Rattle.laws.proofs.Held.{places, found_cells}
use Rattle.laws.proofs.Distinct.{occ}
use Rattle.laws.proofs.Totals.{total, of_found, total_without}

two_total : (f : ℕ → Body → ℕ) (i j : ℕ) (ts : List Node) → (i ≡ j → ⊥) →
    of_found (f i) (find_node i ts) + of_found (f j) (find_node j ts) ≤ total f ts
two_total f i j ts ne =
    omega (
      arith,
      total_without f i ts,
      rw (find_without_other j i ts (λ z. ne (sym z))) at (total_without f j (without_node i ts)),
    )

pub occ_nth : (ks : List ℕ) (o : ℕ) → o < length ks → 0 < occ (get_or ks o 0) ks
unfolding occ
occ_nth [] o h = absurd (omega arith)
occ_nth (k ∷ ks) zero h = grind (arith, nat_tests)
occ_nth (k ∷ ks) (suc o) h = omega (arith, occ_nth ks o (omega arith))

-- the same number at two places is there twice
occ_two : (ks : List ℕ) (o p : ℕ) → o < length ks → p < length ks → (o ≡ p → ⊥) → get_or ks o 0 ≡ get_or ks p 0 → 1 < occ (get_or ks o 0) ks
unfolding occ
occ_two [] o p h k ne e = absurd (omega arith)
occ_two (x ∷ ks) zero zero h k ne e = absurd (ne refl)
occ_two (x ∷ ks) zero (suc p) h k ne e = let m = rw (← e) at (occ_nth ks p (omega arith)) in grind (arith, nat_tests)
occ_two (x ∷ ks) (suc o) zero h k ne e = let m = occ_nth ks o (omega arith) in grind (arith, nat_tests)
occ_two (x ∷ ks) (suc o) (suc p) h k ne e =
    omega (arith, occ_two ks o p (omega arith) (omega arith) (λ z. ne (ap suc z)) e)

module _ (w : ℕ) (ts : List Node) (a : Apart w ts) where
  -- the cell at a place
  abbrev cell : ℕ → ℕ → ℕ
  cell i o = get_or (cells (find_node i ts)) o 0

  abbrev within : ℕ → ℕ → Type 0
  within i o = o < length (cells (find_node i ts))

  pub in_range : (i o : ℕ) → within i o → cell i o < w
  in_range i o h =
      let c : ℕ = cell i o in
      (a c).1 (omega (arith, occ_nth (cells (find_node i ts)) o h, total_without (places c) i ts, found_cells c i (find_node i ts)))

  pub own_cell : (i o j p : ℕ) → within i o → within j p → ((j ≡ i) × (p ≡ o) → ⊥) → cell j p ≡ cell i o → ⊥
  own_cell i o j p h k ne e =
      let c : ℕ = cell i o in
      elim (cases_eq j i) [
        | inl z ↦ (let k' = rw z at k in
            omega (
              arith,
              (a c).0,
              occ_two (cells (find_node i ts)) o p h k' (λ q. ne (z, sym q)) (sym (rw z at e)),
              total_without (places c) i ts,
              found_cells c i (find_node i ts),
            ))
        | inr d ↦ omega (
          arith,
          (a c).0,
          two_total (places c) i j ts (λ z. d (sym z)),
          found_cells c i (find_node i ts),
          found_cells c j (find_node j ts),
          occ_nth (cells (find_node i ts)) o h,
          rw e at (occ_nth (cells (find_node j ts)) p k),
        )
      ]
