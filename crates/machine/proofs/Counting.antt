-- Which data blocks are held, how many they are, and which are free: the bits count what the model counts.
use Rattle.std.proofs.Common.{◌≡◌, ℕ, zero, suc, ◌+◌, ◌<◌, ◌≤◌, Bool, true, false, ◌||◌, eqb, List, [], ◌∷◌, ◌++◌, map, length, get_or, set, sym, refl, ap, ◌∙◌, subst, ⊎_elim, zero-le, not-suc-le-zero, add-zero, zero-add, arith, length-set}
use Rattle.std.proofs.lemmas.List.{get_or-set_same}
use Rattle.std.proofs.lemmas.Bool.{eqb-true, eqb-false, eq-eqb, ne_eqb, or_cases, or_parts, or_left, or_right, both_ways, false≢true, cases_Bool, cases_eq}
use Rattle.model.specs.Fs.{is_in, each_once}
use Rattle.machine.specs.State.{marks, count_set, free, marked}
use Rattle.machine.proofs.Invariant.{at, Placed}
use Rattle.machine.proofs.Lists.{get_or_set_apart, in_append, in_map, of_map, same_in}

pub length-marks : (n i : ℕ) (bs : List ℕ) → length (marks n i bs) ≡ n
unfolding marks
length-marks zero i bs = refl
length-marks (suc n) i bs = ap suc (length-marks n (suc i) bs)

pub count_few : (bs : List Bool) → count_set bs ≤ length bs
unfolding count_set
count_few [] = zero-le
count_few (true ∷ bs) = let q = count_few bs in omega arith
count_few (false ∷ bs) = let q = count_few bs in omega arith

-- where each bit that is set in one row is set in another, there are no more of them
pub count_under : (cs bs : List Bool) → length cs ≡ length bs → ((i : ℕ) → get_or cs i false ≡ true → get_or bs i false ≡ true) →
    count_set cs ≤ count_set bs
unfolding count_set
count_under [] bs e f = omega arith
count_under (a ∷ xs) [] e f = absurd (omega arith)
count_under (true ∷ xs) (true ∷ ys) e f = omega (arith, count_under xs ys (omega arith) (λ i. f (suc i)))
count_under (true ∷ xs) (false ∷ ys) e f = absurd (false≢true (f 0 refl))
count_under (false ∷ xs) (true ∷ ys) e f = omega (arith, count_under xs ys (omega arith) (λ i. f (suc i)))
count_under (false ∷ xs) (false ∷ ys) e f = omega (arith, count_under xs ys (omega arith) (λ i. f (suc i)))

pub marks_same : (n k : ℕ) (xs ys : List ℕ) → ((c : ℕ) → is_in c xs ≡ is_in c ys) → marks n k xs ≡ marks n k ys
unfolding marks
marks_same zero k xs ys h = refl
marks_same (suc n) k xs ys h = rw (h k, marks_same n (suc k) xs ys h)

-- one that is before all, or there already, marks nothing
marks_past : (n k b : ℕ) (bs : List ℕ) → b < k → marks n k (b ∷ bs) ≡ marks n k bs
unfolding marks is_in
marks_past zero k b bs h = refl
marks_past (suc n) k b bs h = rw (ne_eqb k b (λ e. omega arith), marks_past n (suc k) b bs (omega arith))

ones_none : (n k : ℕ) → count_set (marks n k []) ≡ 0
unfolding marks count_set is_in
ones_none zero k = refl
ones_none (suc n) k = rw (ones_none n (suc k))

ones_more : (n k b : ℕ) (bs : List ℕ) → is_in b bs ≡ false → k ≤ b → b < k + n →
    count_set (marks n k (b ∷ bs)) ≡ suc (count_set (marks n k bs))
unfolding marks count_set is_in
ones_more zero k b bs h p q = let z : ⊥ = omega arith in absurd z
ones_more (suc n) k b bs h p q = ⊎_elim
    (λ e. let i : is_in k bs ≡ false = ap (λ (x : ℕ). is_in x bs) e ∙ h in
    rw (eq-eqb k b e, i, marks_past n (suc k) b bs (omega arith)) (omega arith))
    (λ e. rw (ne_eqb k b e, ones_more n (suc k) b bs h (omega arith) (omega arith)) (omega arith))
    (cases_eq k b)

pub ones_each : (n : ℕ) (bs : List ℕ) → ((b : ℕ) → is_in b bs ≡ true → b < n) → count_set (marks n 0 bs) ≡ each_once bs
unfolding each_once is_in
ones_each n [] h = ones_none n 0
ones_each n (b ∷ bs) h =
    let ih : count_set (marks n 0 bs) ≡ each_once bs = ones_each n bs (λ c p. h c (or_right (eqb c b) (is_in c bs) p)) in
    ⊎_elim
    (λ p. rw p (ap count_set (marks_same n 0 (b ∷ bs) bs
    (λ c. same_in c (b ∷ bs) bs (λ q. ⊎_elim (λ e. ap (λ (x : ℕ). is_in x bs) (eqb-true c b e)
    ∙ p) (λ e. e) (or_cases (eqb c b) (is_in c bs) q)) (λ q. or_right (eqb c b) (is_in c bs) q)))
    ∙ (ih ∙ sym (zero-add (each_once bs)))))
    (λ p. rw p (ones_more n 0 b bs p zero-le (let q = h b (or_left (eqb b b) (is_in b bs) (eq-eqb b b refl)) in omega arith)
    ∙ (ap suc ih ∙ omega arith)))
    (cases_Bool (is_in b bs))

each_map : (f : ℕ → ℕ) (cs : List ℕ) → ((c e : ℕ) → is_in c cs ≡ true → is_in e cs ≡ true → f c ≡ f e → c ≡ e) →
    each_once (map f cs) ≡ each_once cs
unfolding each_once is_in
each_map f [] h = refl
each_map f (c ∷ cs) h =
    let here : is_in c (c ∷ cs) ≡ true = or_left (eqb c c) (is_in c cs) (eq-eqb c c refl) in
    let q : is_in (f c) (map f cs) ≡ is_in c cs = ⊎_elim
    (λ p. in_map f c cs p ∙ sym p)
    (λ p. ⊎_elim (λ r. let o = of_map f (f c) cs r in
    absurd (both_ways (is_in c cs) p
    (subst (λ (x : ℕ). is_in x cs ≡ true) (h o.0 c (or_right (eqb o.0 c) (is_in o.0 cs) o.1) here o.2)
    o.1))) (λ r. r ∙ sym p) (cases_Bool (is_in (f c) (map f cs))))
    (cases_Bool (is_in c cs)) in
    rw (q, each_map f cs (λ a e p r. h a e (or_right (eqb a c) (is_in a cs) p) (or_right (eqb e c) (is_in e cs) r)))

-- HOW MANY ARE HELD: as many as there are marks
pub held_count : (room : ℕ) (m hs : List ℕ) → Placed room m hs → count_set (marks room 0 (map (at m) hs)) ≡ each_once hs
held_count room m hs p =
    ones_each room (map (at m) hs) (λ b h. let o = of_map (at m) b hs h in subst (λ (x : ℕ). x < room) o.2 (p.below o.0 o.1))
    ∙ each_map (at m) hs p.apart

-- marking
or_swap : (a b c : Bool) → (a || (b || c)) ≡ (b || (a || c))
or_swap true true c = refl
or_swap true false c = refl
or_swap false b c = refl

set-marks : (r k i x : ℕ) (hs : List ℕ) → x ≡ k + i → set (marks r k hs) i true ≡ marks r k (x ∷ hs)
unfolding marks is_in
set-marks zero k i x hs e = refl
set-marks (suc r) k zero x hs e = rw (eq-eqb k x (omega arith), marks_past r (suc k) x hs (omega arith))
set-marks (suc r) k (suc i) x hs e = rw (ne_eqb k x (λ p. omega arith), set-marks r (suc k) i x hs (omega arith))

pub marked_marks : (r : ℕ) (xs hs : List ℕ) → marked xs (marks r 0 hs) ≡ marks r 0 (xs ++ hs)
unfolding marked is_in
marked_marks r [] hs = refl
marked_marks r (x ∷ xs) hs =
    ap (marked xs) (set-marks r 0 x x hs (sym (zero-add x))) ∙ (marked_marks r xs (x ∷ hs)
    ∙ marks_same r 0 (xs ++ (x ∷ hs)) ((x ∷ xs) ++ hs) (λ c. in_append c xs (x ∷ hs)
    ∙ (or_swap (is_in c xs) (eqb c x) (is_in c hs) ∙ ap (λ (b : Bool). eqb c x || b) (sym (in_append c xs hs)))))

pub length_marked : (xs : List ℕ) (bs : List Bool) → length (marked xs bs) ≡ length bs
unfolding marked
length_marked [] bs = refl
length_marked (x ∷ xs) bs = length_marked xs (set bs x true) ∙ length-set bs x true

pub marked_out : (x : ℕ) (xs : List ℕ) (bs : List Bool) → is_in x xs ≡ false → get_or (marked xs bs) x false ≡ get_or bs x false
unfolding marked is_in
marked_out x [] bs h = refl
marked_out x (y ∷ ys) bs h =
    let p = or_parts (eqb x y) (is_in x ys) h in
    marked_out x ys (set bs y true) p.1 ∙ get_or_set_apart false bs y x true (λ e. eqb-false x y p.0 (sym e))

pub marked_in : (x : ℕ) (xs : List ℕ) (bs : List Bool) → is_in x xs ≡ true → x < length bs → get_or (marked xs bs) x false ≡ true
unfolding marked is_in
marked_in x [] bs h p = absurd (false≢true h)
marked_in x (y ∷ ys) bs h p = ⊎_elim
    (λ q. marked_in x ys (set bs y true) q (subst (λ (n : ℕ). x < n) (sym (length-set bs y true)) p))
    (λ q. ⊎_elim
    (λ r. let w : x ≡ y = eqb-true x y r in
    marked_out x ys (set bs y true) q
    ∙ subst (λ (z : ℕ). get_or (set bs y true) z false ≡ true) (sym w)
    (get_or-set_same bs y true false (subst (λ (z : ℕ). z < length bs) w p)))
    (λ r. absurd (both_ways (is_in x ys) q r)) (or_cases (eqb x y) (is_in x ys) h))
    (cases_Bool (is_in x ys))

-- which they are
pub marks_have : (n k i : ℕ) (cs : List ℕ) → get_or (marks n k cs) i false ≡ true → is_in (k + i) cs ≡ true
unfolding marks
marks_have zero k i cs h = absurd (false≢true h)
marks_have (suc n) k zero cs h = subst (λ (x : ℕ). is_in x cs ≡ true) (sym (add-zero k)) h
marks_have (suc n) k (suc i) cs h = subst (λ (x : ℕ). is_in x cs ≡ true) (let e : suc k + i ≡ k + suc i = omega arith in e)
    (marks_have n (suc k) i cs h)

pub have_marks : (n k i : ℕ) (cs : List ℕ) → i < n → is_in (k + i) cs ≡ true → get_or (marks n k cs) i false ≡ true
unfolding marks
have_marks zero k i cs p h = absurd (not-suc-le-zero p)
have_marks (suc n) k zero cs p h = subst (λ (x : ℕ). is_in x cs ≡ true) (add-zero k) h
have_marks (suc n) k (suc i) cs p h =
    have_marks n (suc k) i cs (omega arith) (subst (λ (x : ℕ). is_in x cs ≡ true) (let e : k + suc i ≡ suc k + i = omega arith in e) h)

-- free blocks
pub free-length : (n : ℕ) (bs : List Bool) (k : ℕ) → n + count_set bs ≤ length bs → length (free n bs k) ≡ n
unfolding free count_set
free-length zero bs k h = refl
free-length (suc n) [] k h = let z : ⊥ = omega arith in absurd z
free-length (suc n) (true ∷ bs) k h = free-length (suc n) bs (suc k) (omega arith)
free-length (suc n) (false ∷ bs) k h = ap suc (free-length n bs (suc k) (omega arith))

free_low : (n : ℕ) (bs : List Bool) (k j : ℕ) → j < length (free n bs k) → k ≤ at (free n bs k) j
unfolding free
free_low zero bs k j h = absurd (not-suc-le-zero h)
free_low (suc n) [] k j h = absurd (not-suc-le-zero h)
free_low (suc n) (true ∷ bs) k j h = let q = free_low (suc n) bs (suc k) j h in omega arith
free_low (suc n) (false ∷ bs) k zero h = omega arith
free_low (suc n) (false ∷ bs) k (suc j) h = let q = free_low n bs (suc k) j (omega arith) in omega arith

pub free_apart : (n : ℕ) (bs : List Bool) (k i j : ℕ) → i < j → j < length (free n bs k) → at (free n bs k) i < at (free n bs k) j
unfolding free
free_apart zero bs k i j p h = absurd (not-suc-le-zero h)
free_apart (suc n) [] k i j p h = absurd (not-suc-le-zero h)
free_apart (suc n) (true ∷ bs) k i j p h = free_apart (suc n) bs (suc k) i j p h
free_apart (suc n) (false ∷ bs) k i zero p h = absurd (not-suc-le-zero p)
free_apart (suc n) (false ∷ bs) k zero (suc j) p h = free_low n bs (suc k) j (omega arith)
free_apart (suc n) (false ∷ bs) k (suc i) (suc j) p h = free_apart n bs (suc k) i j (omega arith) (omega arith)

-- they are clear
free_clear : (n : ℕ) (bs : List Bool) (k j i : ℕ) → j < length (free n bs k) → at (free n bs k) j ≡ k + i →
    (i < length bs) × (get_or bs i false ≡ false)
unfolding free
free_clear zero bs k j i h e = absurd (not-suc-le-zero h)
free_clear (suc n) [] k j i h e = absurd (not-suc-le-zero h)
free_clear (suc n) (true ∷ bs) k j zero h e = absurd (omega (arith, free_low (suc n) bs (suc k) j h))
free_clear (suc n) (true ∷ bs) k j (suc i) h e =
    let q = free_clear (suc n) bs (suc k) j i h (omega arith) in (omega (arith, q.0), q.1)
free_clear (suc n) (false ∷ bs) k zero i h e = let z : i ≡ 0 = omega arith in rw z (omega arith, refl)
free_clear (suc n) (false ∷ bs) k (suc j) zero h e = absurd (omega (arith, free_low n bs (suc k) j (omega arith)))
free_clear (suc n) (false ∷ bs) k (suc j) (suc i) h e =
    let q = free_clear n bs (suc k) j i (omega arith) (omega arith) in (omega (arith, q.0), q.1)

pub free_open : (n : ℕ) (bs : List Bool) (j : ℕ) → j < length (free n bs 0) →
    (at (free n bs 0) j < length bs) × (get_or bs (at (free n bs 0) j) false ≡ false)
free_open n bs j h = free_clear n bs 0 j (at (free n bs 0) j) h (omega arith)

pub free_in : (n r : ℕ) (hs : List ℕ) (j : ℕ) → j < length (free n (marks r 0 hs) 0) →
    (at (free n (marks r 0 hs) 0) j < r) × (is_in (at (free n (marks r 0 hs) 0) j) hs ≡ false)
free_in n r hs j h =
    let x : ℕ = at (free n (marks r 0 hs) 0) j in
    let q = free_open n (marks r 0 hs) j h in
    let p : x < r = omega (arith, q.0, length-marks r 0 hs) in (
      p,
      ⊎_elim (λ e. absurd (both_ways _ q.1 (have_marks r 0 x hs p (subst (λ (y : ℕ). is_in y hs ≡ true) (sym (zero-add x)) e))))
          (λ e. e) (cases_Bool (is_in x hs)),
    )
