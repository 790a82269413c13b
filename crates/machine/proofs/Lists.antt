-- Places in lists, and what is in them.
use Rattle.std.proofs.Common.{◌≡◌, ℕ, zero, suc, ◌+◌, ◌<◌, ◌≤◌, true, ◌||◌, eqb, ◌⊎◌, List, [], ◌∷◌, ◌++◌, map, length, get_or, take, set, replicate, sym, refl, ap, ◌∙◌, inl, inr, ⊎_elim, not-suc-le-zero, arith}
use mathlib.Core.Bool.{or_assoc}
use Rattle.std.proofs.lemmas.Bool.{eqb-true, eqb-false, eq-eqb, or_cases, or_left, or_right, both_ways, cases_Bool, false≢true}
use Rattle.model.specs.Fs.{is_in, numbers}
use Rattle.std.proofs.lemmas.List.{get_or-set_other}

-- places in lists
module _ {A : Type 0} where
  pub get_or_set_apart : (d : A) (xs : List A) (i j : ℕ) (a : A) → (i ≡ j → ⊥) → get_or (set xs i a) j d ≡ get_or xs j d
  get_or_set_apart d xs i j a h = get_or-set_other xs i j a d (λ e. h (sym e))

  pub get_or_append_at : (d : A) (xs ys : List A) (i j : ℕ) → i ≡ length xs + j → get_or (xs ++ ys) i d ≡ get_or ys j d
  get_or_append_at d [] ys i j h = ap (λ (n : ℕ). get_or ys n d) (omega arith)
  get_or_append_at d (x ∷ xs) ys zero j h = let k : ⊥ = omega arith in absurd k
  get_or_append_at d (x ∷ xs) ys (suc i) j h = get_or_append_at d xs ys i j (omega arith)

  -- within, the default doesn't matter; outside, there is nothing else
  pub get_or_either : (xs : List A) (i : ℕ) → ((d e : A) → get_or xs i d ≡ get_or xs i e) ⊎ ((d : A) → get_or xs i d ≡ d)
  get_or_either [] i = inr (λ d. refl)
  get_or_either (x ∷ xs) zero = inl (λ d e. refl)
  get_or_either (x ∷ xs) (suc i) = get_or_either xs i

  pub get_or_replicate_any : (a : A) (n i : ℕ) → get_or (replicate n a) i a ≡ a
  get_or_replicate_any a zero i = refl
  get_or_replicate_any a (suc n) zero = refl
  get_or_replicate_any a (suc n) (suc i) = get_or_replicate_any a n i

-- what is in lists
pub in_append : (c : ℕ) (xs ys : List ℕ) → is_in c (xs ++ ys) ≡ (is_in c xs || is_in c ys)
unfolding is_in
in_append c [] ys = refl
in_append c (x ∷ xs) ys = rw (in_append c xs ys) (sym (or_assoc (eqb c x) (is_in c xs) (is_in c ys)))

pub in_left : (c : ℕ) (xs ys : List ℕ) → is_in c xs ≡ true → is_in c (xs ++ ys) ≡ true
in_left c xs ys h = in_append c xs ys ∙ or_left (is_in c xs) (is_in c ys) h

pub in_right : (c : ℕ) (xs ys : List ℕ) → is_in c ys ≡ true → is_in c (xs ++ ys) ≡ true
in_right c xs ys h = in_append c xs ys ∙ or_right (is_in c xs) (is_in c ys) h

pub in_either : (c : ℕ) (xs ys : List ℕ) → is_in c (xs ++ ys) ≡ true → (is_in c xs ≡ true) ⊎ (is_in c ys ≡ true)
in_either c xs ys h = or_cases (is_in c xs) (is_in c ys) (sym (in_append c xs ys) ∙ h)

pub in_nth : (xs : List ℕ) (j : ℕ) → j < length xs → is_in (get_or xs j 0) xs ≡ true
unfolding is_in
in_nth [] j h = absurd (not-suc-le-zero h)
in_nth (x ∷ xs) zero h = or_left (eqb x x) (is_in x xs) (eq-eqb x x refl)
in_nth (x ∷ xs) (suc j) h = or_right (eqb (get_or xs j 0) x) (is_in (get_or xs j 0) xs) (in_nth xs j (omega arith))

-- and where it is
pub in_at : (c : ℕ) (xs : List ℕ) → is_in c xs ≡ true → (j : ℕ) × (j < length xs) × (get_or xs j 0 ≡ c)
unfolding is_in
in_at c [] h = absurd (false≢true h)
in_at c (x ∷ xs) h = ⊎_elim (λ p. (0, omega arith, sym (eqb-true c x p))) (λ p. let q = in_at c xs p in
    (suc q.0, omega (arith, q.1), q.2)) (or_cases (eqb c x) (is_in c xs) h)

pub in_map : (f : ℕ → ℕ) (c : ℕ) (xs : List ℕ) → is_in c xs ≡ true → is_in (f c) (map f xs) ≡ true
unfolding is_in
in_map f c [] h = h
in_map f c (x ∷ xs) h = ⊎_elim (λ p. or_left (eqb (f c) (f x)) (is_in (f c) (map f xs)) (eq-eqb (f c) (f x) (ap f (eqb-true c x p))))
    (λ p. or_right (eqb (f c) (f x)) (is_in (f c) (map f xs)) (in_map f c xs p)) (or_cases (eqb c x) (is_in c xs) h)

pub of_map : (f : ℕ → ℕ) (b : ℕ) (xs : List ℕ) → is_in b (map f xs) ≡ true → (c : ℕ) × (is_in c xs ≡ true) × (f c ≡ b)
unfolding is_in
of_map f b [] h = absurd (false≢true h)
of_map f b (x ∷ xs) h =
    ⊎_elim (λ p. (x, or_left (eqb x x) (is_in x xs) (eq-eqb x x refl), sym (eqb-true b (f x) p)))
    (λ p. let q = of_map f b xs p in (q.0, or_right (eqb q.0 x) (is_in q.0 xs) q.1, q.2))
    (or_cases (eqb b (f x)) (is_in b (map f xs)) h)

pub in_take : (c n : ℕ) (xs : List ℕ) → is_in c (take n xs) ≡ true → is_in c xs ≡ true
unfolding is_in
in_take c zero xs h = absurd (false≢true h)
in_take c (suc n) [] h = h
in_take c (suc n) (x ∷ xs) h = ⊎_elim (λ p. or_left (eqb c x) (is_in c xs) p) (λ p. or_right (eqb c x) (is_in c xs) (in_take c n xs p))
    (or_cases (eqb c x) (is_in c (take n xs)) h)

pub in_numbers : (c n k : ℕ) → is_in c (numbers n k) ≡ true → (k ≤ c) × (c < k + n)
unfolding is_in numbers
in_numbers c zero k h = absurd (false≢true h)
in_numbers c (suc n) k h = ⊎_elim (λ p. let q = eqb-true c k p in omega arith) (λ p. let q = in_numbers c n (suc k) p in
    omega (arith, q.0, q.1)) (or_cases (eqb c k) (is_in c (numbers n (suc k))) h)

pub numbers_in : (c n k : ℕ) → k ≤ c → c < k + n → is_in c (numbers n k) ≡ true
unfolding is_in numbers
numbers_in c zero k h p = let z : ⊥ = omega arith in absurd z
numbers_in c (suc n) k h p = ⊎_elim (λ e. or_left (eqb c k) (is_in c (numbers n (suc k))) e)
    (λ e. or_right (eqb c k) (is_in c (numbers n (suc k))) (numbers_in c n (suc k) (let q = eqb-false c k e in omega arith)
    (omega arith))) (cases_Bool (eqb c k))

-- the same, whatever is asked
pub same_in : (c : ℕ) (xs ys : List ℕ) → (is_in c xs ≡ true → is_in c ys ≡ true) → (is_in c ys ≡ true → is_in c xs ≡ true) →
    is_in c xs ≡ is_in c ys
same_in c xs ys f g = ⊎_elim (λ p. p ∙ sym (f p)) (λ p. ⊎_elim (λ q. absurd (both_ways (is_in c xs) p (g q))) (λ q. p
    ∙ sym q) (cases_Bool (is_in c ys))) (cases_Bool (is_in c xs))
