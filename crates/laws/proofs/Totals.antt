-- Sums over the nodes of a tree, and what a change of one node changes of a sum: cells, names and ids are all counted so. And
-- what is found after a change.
use Rattle.std.proofs.Common.{◌≡◌, ℕ, ◌+◌, true, false, List, [], ◌∷◌, ◌++◌, refl, arith}
use Rattle.std.proofs.lemmas.Bool.Decides.{nat_tests}
use Rattle.model.specs.Tree.{Body, Node, some_of, find_node, without_node, with_body}

unfoldable pub total : (ℕ → Body → ℕ) → List Node → ℕ
total f [] = 0
total f (t ∷ ts) = f t.id t.body + total f ts

-- of what was found, or 0
unfoldable pub of_found : (Body → ℕ) → List Body → ℕ
of_found f [] = 0
of_found f (b ∷ bs) = f b

unfoldable pub if_found : List Body → ℕ → ℕ
if_found [] k = 0
if_found (b ∷ bs) k = k

pub total-append : (f : ℕ → Body → ℕ) (xs ys : List Node) → total f (xs ++ ys) ≡ total f xs + total f ys
unfolding total
total-append f [] ys = omega arith
total-append f (x ∷ xs) ys = omega (arith, total-append f xs ys)

pub total_with : (f : ℕ → Body → ℕ) (i : ℕ) (b : Body) (ts : List Node) →
    total f (with_body i b ts) + of_found (f i) (find_node i ts) ≡ total f ts + if_found (find_node i ts) (f i b)
unfolding total with_body find_node of_found if_found
total_with f i b [] = refl
total_with f i b (t ∷ ts) = let ih = total_with f i b ts in grind (arith, nat_tests)

pub total_without : (f : ℕ → Body → ℕ) (i : ℕ) (ts : List Node) → total f (without_node i ts) + of_found (f i) (find_node i ts) ≡ total
    f ts
unfolding total without_node find_node of_found
total_without f i [] = refl
total_without f i (t ∷ ts) = let ih = total_without f i ts in grind (arith, nat_tests)

pub find-append : (i : ℕ) (xs ys : List Node) → some_of (find_node i xs) ≡ true → find_node i (xs ++ ys) ≡ find_node i xs
unfolding find_node some_of
find-append i [] ys h = grind arith
find-append i (t ∷ ts) ys h = let ih = find-append i ts ys in grind arith

pub none : {A : Type 0} (xs : List A) → some_of xs ≡ false → xs ≡ []
unfolding some_of
none xs h = grind arith
