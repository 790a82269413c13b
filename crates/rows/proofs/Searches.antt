-- Searches row by row: where a row is found and where none is; and by halves among ids that ascend.
use Rattle.std.proofs.Common.{◌≡◌, ℕ, zero, suc, ◌+◌, ◌<◌, ◌≤◌, Bool, true, false, eqb, ltb, List, Some, None, sym, refl, ap, ◌∙◌, inl, inr, arith}
use Rattle.std.proofs.lemmas.Bool.{cases_lt, eq-eqb, ne_eqb, lt-ltb, le-ltb}
use Rattle.tables.specs.Lookup.{first_row, row_id, row_of, Ascends}
use Rattle.std.specs.Bool.{then_some}
use Rattle.rows.specs.Found.{found}

-- no row passes before the j-th, and that one does; and none passes at all
pub first_found : (p : ℕ → Bool) (n k j : ℕ) → j < n → ((i : ℕ) → i < j → p (k + i) ≡ false) → p (k + j) ≡ true →
    first_row p n k ≡ j
first_found p zero k j l none found = absurd (omega arith)
first_found p (suc n) k zero l none found =
    let z : k + 0 ≡ k = omega arith in
    let e : p k ≡ true = ap p (sym z) ∙ found in
    rw e
first_found p (suc n) k (suc j) l none found =
    let z : k + 0 ≡ k = omega arith in
    let e : p k ≡ false = ap p (sym z) ∙ none 0 (omega arith) in
    let s : (i : ℕ) → (k + 1) + i ≡ k + suc i = λ i. omega arith in
    let ih = first_found p n (k + 1) j (omega arith) (λ i h. ap p (s i) ∙ none (suc i) (omega arith)) (ap p (s j) ∙ found) in
    rw e (ap suc ih)

pub first_none : (p : ℕ → Bool) (n k : ℕ) → ((i : ℕ) → i < n → p (k + i) ≡ false) → first_row p n k ≡ n
first_none p zero k none = refl
first_none p (suc n) k none =
    let z : k + 0 ≡ k = omega arith in
    let e : p k ≡ false = ap p (sym z) ∙ none 0 (omega arith) in
    let s : (i : ℕ) → (k + 1) + i ≡ k + suc i = λ i. omega arith in
    rw e (ap suc (first_none p n (k + 1) (λ i h. ap p (s i) ∙ none (suc i) (omega arith))))

-- among ids: found, after ids that are less; and nowhere, where ids ascend and those from a row on are not less
pub row_found : (id n j : ℕ) (ns : List ℕ) → j < n → ((i : ℕ) → i < j → row_id ns i < id) → row_id ns j ≡ id → row_of id n ns ≡ j
row_found id n j ns l less e =
    let z : (i : ℕ) → 0 + i ≡ i = λ i. omega arith in
    first_found (λ k. eqb id (row_id ns k)) n 0 j l
    (λ i h. rw (z i) (ne_eqb id (row_id ns i) (λ q. let b = less i h in omega arith)))
    (rw (z j) (eq-eqb id (row_id ns j) (sym e)))

pub row_none : (id n j : ℕ) (ns : List ℕ) → Ascends n ns → ((i : ℕ) → i < j → row_id ns i < id) →
    ((i : ℕ) → j ≤ i → i < n → id ≤ row_id ns i) → (j < n → row_id ns j ≡ id → ⊥) → row_of id n ns ≡ n
row_none id n j ns up less more other = first_none (λ k. eqb id (row_id ns k)) n 0 apart
  where
    differs : (i : ℕ) → i < n → id ≡ row_id ns i → ⊥
    differs i h q = elim (cases_lt i j) [
      | inl b ↦ let x = less i b in omega arith
      | inr b ↦ elim (cases_lt j i) [
        | inl d ↦ let x = up j i d h in let y = more j (omega arith) (omega arith) in omega arith
        | inr d ↦ let s : i ≡ j = omega arith in other (omega arith) (ap (row_id ns) (sym s) ∙ sym q)
      ]
    ]

    apart : (i : ℕ) → i < n → eqb id (row_id ns (0 + i)) ≡ false
    apart i h = let z : 0 + i ≡ i = omega arith in rw z (ne_eqb id (row_id ns i) (differs i h))

-- a search that ended at one of the rows, and one that passed them all
pub found_at : (n k j : ℕ) → k ≡ j → j < n → found n k ≡ Some j
found_at n k j e l = let t : ltb j n ≡ true = lt-ltb j n l in rw (e, t) refl

pub found_none : (n k : ℕ) → k ≡ n → found n k ≡ None
found_none n k e = let t : ltb n n ≡ false = le-ltb n n (omega arith) in rw (e, t) refl

-- what is told of the row where the halves meet
pub row_told : (id n j : ℕ) (ns : List ℕ) (b : Bool) → Ascends n ns → ((i : ℕ) → i < j → row_id ns i < id) →
    ((i : ℕ) → j ≤ i → i < n → id ≤ row_id ns i) → (b ≡ true → (j < n) × (row_id ns j ≡ id)) →
    (b ≡ false → j < n → row_id ns j ≡ id → ⊥) → then_some b j ≡ found n (row_of id n ns)
row_told id n j ns true up less more here other =
    let h = here refl in
    sym (found_at n (row_of id n ns) j (row_found id n j ns h.0 less h.1) h.0)
row_told id n j ns false up less more here other =
    sym (found_none n (row_of id n ns) (row_none id n j ns up less more (other refl)))
