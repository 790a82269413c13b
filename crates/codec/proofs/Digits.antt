-- The digits of a length, as they are written: how many they are, what they stand for, that the last is no zero too many,
-- and how a loop comes by them, from the lowest up or from the highest down.
use Rattle.std.proofs.Common.{◌≡◌, ℕ, zero, suc, ◌+◌, ◌-◌, ◌*◌, ◌/◌, ◌%◌, ◌^◌, ◌<◌, ◌≤◌, true, false, ◌&&◌, eqb, ltb, List, [], ◌∷◌, ◌++◌, length, get_or, drop, refl, ap, inl, inr, arith}
use Rattle.std.proofs.Math.Nat.{pow-suc}
use Rattle.std.proofs.lemmas.List.{at_drop_more}
use Rattle.std.proofs.lemmas.Bool.{lt-ltb, le-ltb, ne_eqb, cases_lt, and_right}
use Rattle.model.specs.Calls.{bytes}
use Rattle.codec.specs.Lengths.{digits_by, digits, high, value}
use Rattle.codec.proofs.Bytes.{bytes_nil, bytes_cons}

-- HOW MANY, AND WHAT THEY STAND FOR
pub high_digits : (f n : ℕ) (rest : List ℕ) → n ≤ f → high (digits_by f n ++ rest) + 1 ≡ length (digits_by f n)
high_digits zero n rest l = let h : n < 128 = omega arith in rw (lt-ltb n 128 h) (omega arith)
high_digits (suc f) n rest l =
    let ih : n / 128 ≤ f → high (digits_by f (n / 128) ++ rest) + 1 ≡ length (digits_by f (n / 128)) =
    high_digits f (n / 128) rest in
    elim (cases_lt n 128) [
      | inl h ↦ rw (lt-ltb n 128 h, lt-ltb n 128 h) (omega arith)
      | inr h ↦
          let d : 128 ≤ 128 + n % 128 = omega arith in
          rw (le-ltb n 128 h, le-ltb (128 + n % 128) 128 d) (omega (arith, ih (omega arith)))
    ]

pub value_digits : (f n : ℕ) → n ≤ f → value (digits_by f n) ≡ n
value_digits zero n l = omega arith
value_digits (suc f) n l =
    let ih : n / 128 ≤ f → value (digits_by f (n / 128)) ≡ n / 128 = value_digits f (n / 128) in
    elim (cases_lt n 128) [
      | inl h ↦ rw (lt-ltb n 128 h) (omega arith)
      | inr h ↦ rw (le-ltb n 128 h) (omega (arith, ih (omega arith)))
    ]

pub bytes_digits : (f n : ℕ) → n ≤ f → bytes (digits_by f n) ≡ true
bytes_digits zero n l = bytes_cons n [] (omega arith) bytes_nil
bytes_digits (suc f) n l =
    let ih : n / 128 ≤ f → bytes (digits_by f (n / 128)) ≡ true = bytes_digits f (n / 128) in
    elim (cases_lt n 128) [
      | inl h ↦ rw (lt-ltb n 128 h) (bytes_cons n [] (omega arith) bytes_nil)
      | inr h ↦ rw (le-ltb n 128 h) (bytes_cons (128 + n % 128) _ (omega arith) (ih (omega arith)))
    ]

-- NO ZERO TOO MANY: of a number that is no zero, the last digit is none
last-digit :
    (f n : ℕ) (rest : List ℕ) → n ≤ f → 0 < n →
    0 < get_or (digits_by f n ++ rest) (high (digits_by f n ++ rest)) 0
last-digit zero n rest l p = absurd (omega arith)
last-digit (suc f) n rest l p =
    let ih : n / 128 ≤ f → 0 < n / 128 → 0 < get_or (digits_by f (n / 128) ++ rest) (high (digits_by f (n / 128) ++ rest)) 0 =
    last-digit f (n / 128) rest in
    elim (cases_lt n 128) [
      | inl h ↦ rw (lt-ltb n 128 h, lt-ltb n 128 h) p
      | inr h ↦
          let d : 128 ≤ 128 + n % 128 = omega arith in
          rw (le-ltb n 128 h, le-ltb (128 + n % 128) 128 d) (ih (omega arith) (omega arith))
    ]

pub none-too-many :
    (n : ℕ) (rest : List ℕ) →
    (ltb 0 (high (digits n ++ rest)) && eqb (get_or (digits n ++ rest) (high (digits n ++ rest)) 0) 0) ≡ false
none-too-many zero rest = refl
none-too-many (suc n) rest =
    let p = last-digit (suc n) (suc n) rest (omega arith) (omega arith) in
    and_right _ _ (ne_eqb (get_or (digits (suc n) ++ rest) (high (digits (suc n) ++ rest)) 0) 0 (λ e. omega arith))

-- FROM THE LOWEST UP: as many steps as there may be give the same digits
digits_same : (f g n : ℕ) → n ≤ f → n ≤ g → digits_by f n ≡ digits_by g n
digits_same zero zero n p q = refl
digits_same zero (suc g) n p q = let h : n < 128 = omega arith in rw (lt-ltb n 128 h)
digits_same (suc f) zero n p q = let h : n < 128 = omega arith in rw (lt-ltb n 128 h)
digits_same (suc f) (suc g) n p q =
    let ih : n / 128 ≤ f → n / 128 ≤ g → digits_by f (n / 128) ≡ digits_by g (n / 128) = digits_same f g (n / 128) in
    elim (cases_lt n 128) [
      | inl h ↦ rw (lt-ltb n 128 h)
      | inr h ↦ rw (le-ltb n 128 h) (ap (λ xs. (128 + n % 128) ∷ xs) (ih (omega arith) (omega arith)))
    ]

pub digits_small : (n : ℕ) → n < 128 → digits n ≡ n ∷ []
digits_small zero l = refl
digits_small (suc n) l = rw (lt-ltb (suc n) 128 l)

pub digits_more : (n : ℕ) → 128 ≤ n → digits n ≡ (128 + n % 128) ∷ digits (n / 128)
digits_more zero l = absurd (omega arith)
digits_more (suc n) l =
    let m : ℕ = suc n / 128 in
    rw (le-ltb (suc n) 128 l) (ap (λ xs. (128 + suc n % 128) ∷ xs) (digits_same n m m (omega arith) (omega arith)))

-- there is a digit at least, and there are no more than k where the length is below 128 to the power k
pub digits_some : (n : ℕ) → 1 ≤ length (digits n)
digits_some n =
    elim (cases_lt n 128) [
      | inl h ↦ rw (digits_small n h) (omega arith)
      | inr h ↦ rw (digits_more n h) (omega arith)
    ]

pub digits_within : (k n : ℕ) → n < 128 ^ suc k → length (digits n) ≤ suc k
digits_within zero n l = let s : n < 128 = l in rw (digits_small n s) (omega arith)
digits_within (suc k) n l =
    elim (cases_lt n 128) [
      | inl h ↦ rw (digits_small n h) (omega arith)
      | inr h ↦
          let p = pow-suc 128 (suc k) in
          let s : n / 128 < 128 ^ suc k = omega arith in
          let ih = digits_within k (n / 128) s in
          rw (digits_more n h) (omega arith)
    ]

-- FROM THE HIGHEST DOWN: what the digits from a place on stand for
pub value-drop : (i : ℕ) (xs : List ℕ) → value (drop i xs) ≤ value xs
value-drop zero xs = omega arith
value-drop (suc i) [] = omega arith
value-drop (suc i) (x ∷ xs) = let ih = value-drop i xs in omega arith

pub value-step :
    (xs : List ℕ) (i : ℕ) → 0 < i → i ≤ length xs →
    value (drop (i - 1) xs) ≡ get_or xs (i - 1) 0 % 128 + 128 * value (drop i xs)
value-step xs i p l =
    let lt : i - 1 < length xs = omega arith in
    let e : i - 1 + 1 ≡ i = omega arith in
    rw e at (at_drop_more value xs (i - 1) 0 lt)
