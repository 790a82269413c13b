-- Nodes found after one has another body or is left out, and how many there are.
use Rattle.std.proofs.Common.{◌≡◌, ℕ, suc, ◌≤◌, true, eqb, List, [], ◌∷◌, length, refl, ap, arith}
use Rattle.std.proofs.lemmas.Bool.{cond_both}
use Rattle.std.proofs.lemmas.Bool.Decides.{nat_tests}
use Rattle.model.specs.Tree.{Body, Node, some_of, is_dir, is_file, find_node, without_node, with_body}

pub dir_some : (bs : List Body) → is_dir bs ≡ true → some_of bs ≡ true
unfolding is_dir some_of
dir_some bs h = grind arith

pub file_some : (bs : List Body) → is_file bs ≡ true → some_of bs ≡ true
unfolding is_file some_of
file_some bs h = grind arith

-- the node itself, and another
pub find_with : (i : ℕ) (b : Body) (ts : List Node) → some_of (find_node i ts) ≡ true → find_node i (with_body i b ts) ≡ b ∷ []
unfolding with_body find_node some_of
find_with i b [] h = grind arith
find_with i b (t ∷ ts) h = let ih = find_with i b ts in grind (arith, nat_tests)

pub find_with_other : (j i : ℕ) (b : Body) (ts : List Node) → (j ≡ i → ⊥) → find_node j (with_body i b ts) ≡ find_node j ts
unfolding with_body find_node
find_with_other j i b [] ne = refl
find_with_other j i b (t ∷ ts) ne = let ih = find_with_other j i b ts ne in grind (arith, nat_tests)

pub find_without_other : (j i : ℕ) (ts : List Node) → (j ≡ i → ⊥) → find_node j (without_node i ts) ≡ find_node j ts
unfolding without_node find_node
find_without_other j i [] ne = refl
find_without_other j i (t ∷ ts) ne = let ih = find_without_other j i ts ne in grind (arith, nat_tests)

-- how many
pub length_with : (i : ℕ) (b : Body) (ts : List Node) → length (with_body i b ts) ≡ length ts
unfolding with_body
length_with i b [] = refl
length_with i b (t ∷ ts) =
    cond_both (eqb i t.id) _ _ (λ (z : List Node). length z ≡ suc (length ts)) (λ _. refl) (λ _. ap suc (length_with i b ts))

pub length_without : (i : ℕ) (ts : List Node) → length (without_node i ts) ≤ length ts
unfolding without_node
length_without i [] = omega arith
length_without i (t ∷ ts) =
    cond_both (eqb i t.id) _ _ (λ (z : List Node). length z ≤ suc (length ts)) (λ _. omega arith)
    (λ _. omega (arith, length_without i ts))
