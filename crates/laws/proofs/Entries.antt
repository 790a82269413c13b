-- Sums over the entries of a directory, by name and by id; what adding and dropping a name changes of them.
use Rattle.std.proofs.Common.{◌≡◌, ℕ, ◌+◌, ◌<◌, ◌≤◌, true, false, cond, eqb, List, [], ◌∷◌, ◌++◌, refl, ap, ◌∙◌, arith}
use Rattle.std.proofs.lemmas.Bool.{or_from, and_from}
use Rattle.std.proofs.lemmas.Bool.Decides.{nat_tests}
use Rattle.model.specs.Tree.{Name, same, Entry, Tree, some_of, body_of, find_name, without_name}
use Rattle.model.specs.Laws.{name_among, twice, all_there}
use Rattle.model_facts.proofs.Names.{same_is}

-- 1 where two are the same, else 0
unfoldable pub at : ℕ → ℕ → ℕ
at k i = cond (eqb k i) 1 0

pub at_same : (k : ℕ) → at k k ≡ 1
unfolding at
at_same k = grind (arith, nat_tests)

pub at_other : (k i : ℕ) → (k ≡ i → ⊥) → at k i ≡ 0
unfolding at
at_other k i ne = grind (arith, nat_tests)

unfoldable pub called : Name → Name → ℕ
called n m = cond (same n m) 1 0

pub same_refl : (n : Name) → same n n ≡ true
unfolding same
same_refl [] = refl
same_refl (x ∷ xs) = let ih = same_refl xs in grind (arith, nat_tests)

unfoldable pub sum : (Name → ℕ → ℕ) → List Entry → ℕ
sum f [] = 0
sum f (e ∷ es) = f e.name e.id + sum f es

pub sum-append : (f : Name → ℕ → ℕ) (xs ys : List Entry) → sum f (xs ++ ys) ≡ sum f xs + sum f ys
unfolding sum
sum-append f [] ys = omega arith
sum-append f (x ∷ xs) ys = omega (arith, sum-append f xs ys)

pub sum_without : (f : Name → ℕ → ℕ) (n : Name) (es : List Entry) (i : ℕ) (is : List ℕ) → find_name n es ≡ i ∷ is →
    sum f (without_name n es) + f n i ≡ sum f es
unfolding sum without_name find_name
sum_without f n [] i is h = grind arith
sum_without f n (e ∷ es) i is h = let ih = sum_without f n es i is in let k = same_is n e.name in grind arith

pub sum-fewer : (f : Name → ℕ → ℕ) (n : Name) (es : List Entry) → sum f (without_name n es) ≤ sum f es
unfolding sum without_name
sum-fewer f n [] = omega arith
sum-fewer f n (e ∷ es) = let ih = sum-fewer f n es in grind arith

-- how often a name, and an id, is among the entries
abbrev pub of_name : Name → List Entry → ℕ
of_name n = sum (λ m _. called n m)

abbrev pub of_id : ℕ → List Entry → ℕ
of_id k = sum (λ _ i. at k i)

pub unnamed : (n : Name) (es : List Entry) → find_name n es ≡ [] → of_name n es ≡ 0
unfolding sum find_name called
unnamed n [] h = refl
unnamed n (e ∷ es) h = let ih = unnamed n es in grind arith

pub not_named : (n : Name) (es : List Entry) → of_name n es ≡ 0 → find_name n es ≡ []
unfolding sum find_name called
not_named n [] h = refl
not_named n (e ∷ es) h = let ih = not_named n es in grind arith

pub none_left : (m n : Name) (es : List Entry) → find_name m es ≡ [] → find_name m (without_name n es) ≡ []
none_left m n es h = not_named m _ (omega (arith, unnamed m es h, sum-fewer (λ y _. called m y) n es))

pub named_self : (n : Name) → called n n ≡ 1
unfolding called
named_self n = rw (same_refl n)

-- no name is there twice
there_is : (n : Name) (es : List Entry) → name_among n es ≡ some_of (find_name n es)
unfolding find_name some_of name_among
there_is n [] = refl
there_is n (e ∷ es) = let ih = there_is n es in grind arith

pub names_apart : (es : List Entry) → ((n : Name) → of_name n es ≤ 1) → twice es ≡ false
unfolding twice sum called some_of
names_apart [] f = refl
names_apart (e ∷ es) f =
    or_from _ _
    (there_is e.name es ∙ ap some_of (not_named e.name es (omega (arith, rw (same_refl e.name) at (f e.name)))))
    (names_apart es (λ n. omega (arith, f n)))

pub all_found : (t : Tree) (es : List Entry) → ((k : ℕ) → 0 < of_id k es → some_of (body_of t k) ≡ true) → all_there t es ≡ true
unfolding all_there sum
all_found t [] f = refl
all_found t (e ∷ es) f = and_from _ _ (f e.id (rw at_same (omega arith))) (all_found t es (λ k h. f k (omega arith)))

-- and back
none_among : (n : Name) (es : List Entry) → name_among n es ≡ false → of_name n es ≡ 0
unfolding name_among sum called
none_among n [] h = refl
none_among n (e ∷ es) h = let ih = none_among n es in grind arith

pub apart_names : (es : List Entry) → twice es ≡ false → (n : Name) → of_name n es ≤ 1
unfolding twice sum called
apart_names [] h n = omega arith
apart_names (e ∷ es) h n =
    let ih = apart_names es in let k = none_among e.name es in let i = same_is n e.name in grind arith

pub found_all : (t : Tree) (es : List Entry) → all_there t es ≡ true → (k : ℕ) → 0 < of_id k es → some_of (body_of t k) ≡ true
unfolding all_there sum at
found_all t [] h k p = absurd (omega arith)
found_all t (e ∷ es) h k p = let ih = found_all t es in grind (arith, nat_tests)
