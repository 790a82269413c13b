-- The test for being in a node, which goes down a bounded number of steps, misses nothing: a path down has fewer levels than
-- there are nodes, and at each level it passes over at most as many entries.
use Rattle.std.proofs.Common.{◌≡◌, ℕ, zero, suc, ◌+◌, ◌*◌, ◌<◌, ◌≤◌, true, List, [], ◌∷◌, length, refl, subst, inl, inr, mul-le-mul_right, suc-mul, arith}
use Rattle.std.proofs.lemmas.Bool.{eq-eqb, cases_eq, or_left, or_right}
use Rattle.model.specs.Tree.{Entry, Tree, body_of, entries, holds, any_holds}
use Rattle.laws.proofs.Sound.{with_id}
use Rattle.laws.proofs.Entries.{sum, of_id, at_other}
use Rattle.laws.proofs.Paths.{Descent, Reached, levels, reach_by, stays, down}
use Rattle.laws.proofs.Names.{Well}
use Rattle.laws.proofs.Depth.{few_entries, shallow}

-- the test, with steps enough for each level
any_found : (k w : ℕ) (t : Tree) (es : List Entry) (e x : ℕ) → 0 < of_id x es → length es + w ≤ k →
    ((k : ℕ) → w ≤ k → holds k t x e ≡ true) → any_holds k t es e ≡ true
unfolding any_holds sum
any_found k w t [] e x p h f = absurd (omega arith)
any_found zero w t (y ∷ es) e x p h f = absurd (omega arith)
any_found (suc k) w t (y ∷ es) e x p h f =
    elim (cases_eq x y.id) [
      | inl z ↦ or_left (holds k t y.id e) _ (subst (λ u. holds k t u e ≡ true) z (f k (omega arith)))
      | inr ne ↦ or_right _ _ (any_found k w t es e x (omega (arith, at_other x y.id ne)) (omega arith) f)
    ]

holds_itself : (k : ℕ) (t : Tree) (e : ℕ) → holds k t e e ≡ true
unfolding holds
holds_itself zero t e = eq-eqb e e refl
holds_itself (suc k) t e = or_left _ _ (eq-eqb e e refl)

holds_by : (n : ℕ) (t : Tree) → ((d : ℕ) → length (entries (body_of t d)) ≤ n) → (e i : ℕ) (d : Descent t.nodes e i) (k : ℕ) →
    levels d * suc n ≤ k → holds k t i e ≡ true
unfolding holds levels
holds_by n t few e _ stays k h = holds_itself k t e
holds_by n t few e _ (down i x p d) zero h = absurd (omega (arith, suc-mul (levels d) (suc n)))
holds_by n t few e _ (down i x p d) (suc k) h =
    or_right _ _ (any_found k (levels d * suc n) t (entries (body_of t i)) e x p (omega (arith, few i, suc-mul (levels d) (suc n)))
    (λ j le. holds_by n t few e x d j le))

-- so the test misses nothing
pub test_tells : (t : Tree) (e i : ℕ) → Well t → Reached t.nodes → Descent t.nodes e i → 0 < with_id i t.nodes →
    holds (2 * length t.nodes * suc (length t.nodes)) t i e ≡ true
test_tells t e i a r d p =
    let n : ℕ = length t.nodes in
    let (q, h) = reach_by (r i p) d in
    let low : levels d ≤ 2 * n = omega (arith, shallow t.next t.nodes a e q) in
    holds_by n t (few_entries t.next t.nodes a) e i d (2 * n * suc n) (mul-le-mul_right (suc n) low)
