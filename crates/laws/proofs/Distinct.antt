-- How many different numbers a list has: no more than another that has them all.
use Rattle.std.proofs.Common.{◌≡◌, ℕ, ◌+◌, ◌<◌, ◌≤◌, true, false, cond, eqb, List, [], ◌∷◌, ◌++◌, length, refl, ◌∙◌, arith}
use Rattle.std.proofs.lemmas.Bool.{both_ways, or_right}
use Rattle.std.proofs.lemmas.Bool.Decides.{nat_tests}
use Rattle.model.specs.Fs.{is_in, each_once}

-- how often a number is in a list
unfoldable pub occ : ℕ → List ℕ → ℕ
occ c [] = 0
occ c (x ∷ xs) = cond (eqb c x) 1 0 + occ c xs

pub occ-append : (c : ℕ) (xs ys : List ℕ) → occ c (xs ++ ys) ≡ occ c xs + occ c ys
unfolding occ
occ-append c [] ys = omega arith
occ-append c (x ∷ xs) ys = omega (arith, occ-append c xs ys)

pub in_occ : (c : ℕ) (xs : List ℕ) → is_in c xs ≡ true → 0 < occ c xs
unfolding occ is_in
in_occ c [] h = grind arith
in_occ c (x ∷ xs) h = let ih = in_occ c xs in grind arith

pub occ_in : (c : ℕ) (xs : List ℕ) → 0 < occ c xs → is_in c xs ≡ true
unfolding occ is_in
occ_in c [] h = grind arith
occ_in c (x ∷ xs) h = let ih = occ_in c xs in grind arith

-- all but one number
others : ℕ → List ℕ → List ℕ
others c [] = []
others c (x ∷ xs) = cond (eqb c x) (others c xs) (x ∷ others c xs)

in-others : (d c : ℕ) (xs : List ℕ) → (d ≡ c → ⊥) → is_in d (others c xs) ≡ is_in d xs
unfolding others is_in
in-others d c [] ne = refl
in-others d c (x ∷ xs) ne = let ih = in-others d c xs ne in grind (arith, nat_tests)

once_others : (c : ℕ) (xs : List ℕ) → each_once (others c xs) + cond (is_in c xs) 1 0 ≡ each_once xs
unfolding others is_in each_once
once_others c [] = refl
once_others c (x ∷ xs) = let ih = once_others c xs in let k = in-others x c xs in grind (arith, nat_tests)

pub each_once_le : (xs ys : List ℕ) → ((c : ℕ) → is_in c xs ≡ true → is_in c ys ≡ true) → each_once xs ≤ each_once ys
unfolding is_in each_once
each_once_le [] ys f = omega arith
each_once_le (x ∷ xs) ys f =
    let same : each_once xs ≤ each_once ys = each_once_le xs ys (λ c h. f c (or_right _ _ h)) in
    let less : is_in x xs ≡ false → each_once xs ≤ each_once (others x ys) =
    λ e. each_once_le xs (others x ys) (λ c h. in-others c x ys (λ z. both_ways (is_in x xs) e (rw z at h)) ∙ f c (or_right _ _ h)) in
    let here = f x in let k = once_others x ys in grind (arith, nat_tests)

pub each_once-append : (xs ys : List ℕ) → each_once (xs ++ ys) ≤ length xs + each_once ys
unfolding each_once
each_once-append [] ys = omega arith
each_once-append (x ∷ xs) ys = let ih = each_once-append xs ys in grind arith

each_once_all : (xs : List ℕ) → ((c : ℕ) → occ c xs ≤ 1) → each_once xs ≡ length xs
unfolding occ each_once
each_once_all [] f = refl
each_once_all (x ∷ xs) f =
    let ih = each_once_all xs (λ c. omega (arith, f c)) in
    let k = f x in let m = in_occ x xs in grind (arith, nat_tests)

each_once_few : (xs : List ℕ) → each_once xs ≤ length xs
unfolding each_once
each_once_few [] = omega arith
each_once_few (x ∷ xs) = let ih = each_once_few xs in grind arith

-- different numbers that are all in another list are no more than that has
pub fits_in : (xs ys : List ℕ) → ((c : ℕ) → occ c xs ≤ 1) → ((c : ℕ) → 0 < occ c xs → 0 < occ c ys) → length xs ≤ length ys
fits_in xs ys f g =
    omega (arith, each_once_all xs f, each_once_few ys, each_once_le xs ys (λ c h. occ_in c ys (g c (in_occ c xs h))))
