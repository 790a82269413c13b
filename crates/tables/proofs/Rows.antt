-- The first of some rows of which a test holds.
use Rattle.std.proofs.Common.{◌≡◌, ℕ, zero, suc, ◌+◌, ◌<◌, Bool, true, false, cond, ◌⊎◌, refl, ap, ◌∙◌, inl, inr, arith}
use Rattle.std.proofs.lemmas.Bool.{both_ways, cases_order}
use Rattle.tables.specs.Lookup.{first_row}

-- it holds of none of n rows from row k on
abbrev pub NoneOf : (ℕ → Bool) → ℕ → ℕ → Type 0
NoneOf p n k = (j : ℕ) → j < n → p (k + j) ≡ false

pub record Hit (p : ℕ → Bool) (n k r : ℕ) : Type 0 where
  pub inside : r < n
  pub here : p (k + r) ≡ true
  pub before : NoneOf p r k

none_more : (p : ℕ → Bool) (n k : ℕ) → p k ≡ false → NoneOf p n (k + 1) → NoneOf p (suc n) k
none_more p n k e f zero lt = ap p (let z : k + 0 ≡ k = omega arith in z) ∙ e
none_more p n k e f (suc j) lt = ap p (let z : k + suc j ≡ k + 1 + j = omega arith in z) ∙ f j (omega arith)

pub first_case : (p : ℕ → Bool) (n k : ℕ) → ((first_row p n k ≡ n) × NoneOf p n k) ⊎ Hit p n k (first_row p n k)
first_case p zero k = inl (refl, λ j lt. absurd (omega arith))
first_case p (suc n) k = go (p k) refl (first_case p n (k + 1))
  where
    r : ℕ
    r = first_row p n (k + 1)

    go : (b : Bool) → p k ≡ b → ((r ≡ n) × NoneOf p n (k + 1)) ⊎ Hit p n (k + 1) r →
        ((cond b 0 (suc r) ≡ suc n) × NoneOf p (suc n) k) ⊎ Hit p (suc n) k (cond b 0 (suc r))
    go true e ih = inr (record
        { inside = omega arith; here = ap p (let z : k + 0 ≡ k = omega arith in z) ∙ e; before = λ j lt. absurd (omega arith) })
    go false e (inl q) = inl (ap suc q.0, none_more p n k e q.1)
    go false e (inr q) = let i = q.inside in inr (record {
      inside = omega arith;
      here = ap p (let z : k + suc r ≡ k + 1 + r = omega arith in z) ∙ q.here;
      before = none_more p r k e q.before;
    })

pub first_is : (p : ℕ → Bool) (n k j : ℕ) → Hit p n k j → first_row p n k ≡ j
first_is p n k j h = elim (first_case p n k) [
  | inl q ↦ absurd (both_ways (p (k + j)) (q.1 j h.inside) h.here)
  | inr q ↦ elim (cases_order (first_row p n k) j) [
    | inl e ↦ e
    | inr o ↦ elim o [
      | inl lt ↦ absurd (both_ways (p (k + first_row p n k)) (h.before (first_row p n k) lt) q.here)
      | inr gt ↦ absurd (both_ways (p (k + j)) (q.before j gt) h.here)
    ]
  ]
]

pub first_none : (p : ℕ → Bool) (n k : ℕ) → NoneOf p n k → first_row p n k ≡ n
first_none p n k f = elim (first_case p n k) [
  | inl q ↦ q.0
  | inr q ↦ absurd (both_ways (p (k + first_row p n k)) (f (first_row p n k) q.inside) q.here)
]
