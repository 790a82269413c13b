-- WHAT TWO LISTS BOTH BEGIN WITH: so far the two of each pair are alike.
use Rattle.std.proofs.Common.{◌≡◌, ℕ, ◌+◌, cond, eqb, List, [], ◌∷◌, refl, ap, ◌∙◌, arith}
use Rattle.std.specs.List.{prefix_len, zip}
use Rattle.lines.specs.Verbs.{common}

pub pairs_alike : (a b : List ℕ) → prefix_len (λ (p : ℕ × ℕ). eqb p.0 p.1) (zip a b) ≡ common a b
pairs_alike [] b = refl
pairs_alike (x ∷ xs) [] = refl
pairs_alike (x ∷ xs) (y ∷ ys) = ap (λ n. cond (eqb x y) n 0) (ap (λ n. 1 + n) (pairs_alike xs ys) ∙ omega arith)
