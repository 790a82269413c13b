-- NUMBERS COME BACK: what is printed for a number below 2^64 is read as that number, up to the first byte that is no digit.
use Rattle.std.proofs.Common.{◌≡◌, ℕ, ◌+◌, ◌-◌, ◌*◌, ◌<◌, ◌≤◌, Bool, true, false, ◌&&◌, List, [], ◌∷◌, ◌++◌, length, get_or, Some, Ok, decimal, refl, ap, ◌∙◌, arith, rules}
use Rattle.std.proofs.lemmas.Fmt.{digits_decimal, digits_value-decimal, decimal_nonempty}
use Rattle.std.proofs.lemmas.Str.Parse.{IsNumeralModel, numerals_by_fold}
use Rattle.std.proofs.lemmas.Bool.{and_parts, ltb-true, lt-ltb, cond-true}
use Rattle.words.specs.Law.{NumbersComeBack}
use Rattle.words.specs.Numbers.{digit, more, number_on, read_number}
use Rattle.words.proofs.Numerals.{step, end}

-- all digits, and what they stand for after a number so far
abbrev pub digits : List ℕ → Bool
digits [] = true
digits (c ∷ cs) = digit c && digits cs

abbrev pub value_on : ℕ → List ℕ → ℕ
value_on n [] = n
value_on n (c ∷ cs) = value_on (n * 10 + (c - 48)) cs

own : IsNumeralModel (λ ds. digits ds ≡ true) (value_on 0)
own = numerals_by_fold _ (search rules) value_on (search rules)

pub value_ge : (n : ℕ) (cs : List ℕ) → n ≤ value_on n cs
value_ge n [] = omega arith
value_ge n (c ∷ cs) = let ih = value_ge (n * 10 + (c - 48)) cs in omega arith

pub more_some : (n b : ℕ) → n * 10 + (b - 48) < 18446744073709551616 → more n b ≡ Some (n * 10 + (b - 48))
more_some n b h = cond-true _ _ _ (lt-ltb _ _ h)

number_digits : (n : ℕ) (ds rest : List ℕ) → digits ds ≡ true → value_on n ds < 18446744073709551616 →
    number_on n (ds ++ rest) ≡ number_on (value_on n ds) rest
number_digits n [] rest d h = refl
number_digits n (c ∷ cs) rest d h =
    let g = value_ge (n * 10 + (c - 48)) cs in
    let p = and_parts (digit c) (digits cs) d in
    step n c (n * 10 + (c - 48)) (cs ++ rest) p.0 (more_some n c (omega arith))
    ∙ number_digits (n * 10 + (c - 48)) cs rest p.1 h

number_ends : (n : ℕ) (rest : List ℕ) → digit (get_or rest 0 0) ≡ false → number_on n rest ≡ Ok (n, rest)
number_ends n [] d = refl
number_ends n (b ∷ bs) d = end n b bs d

digits_read : (ds rest : List ℕ) → digits ds ≡ true → 0 < length ds → value_on 0 ds < 18446744073709551616 →
    digit (get_or rest 0 0) ≡ false → read_number (ds ++ rest) ≡ Ok (value_on 0 ds, rest)
digits_read [] rest d l h e = absurd (omega arith)
digits_read (c ∷ cs) rest d l h e =
    cond-true _ _ _ (and_parts (digit c) (digits cs) d).0 ∙ number_digits 0 (c ∷ cs) rest d h ∙ number_ends _ rest e

-- the digits of a number
pub decimal_digits : (n : ℕ) → n < 18446744073709551616 → digits (decimal n) ≡ true
decimal_digits n h = digits_decimal own n h

pub decimal_value : (n : ℕ) → n < 18446744073709551616 → value_on 0 (decimal n) ≡ n
decimal_value n h = digits_value-decimal own n h

pub decimal_any : (n : ℕ) → n < 18446744073709551616 → 0 < length (decimal n)
decimal_any n h = decimal_nonempty n h

pub numbers_come_back : NumbersComeBack
unfolding NumbersComeBack
numbers_come_back n rest e d =
    let h = ltb-true _ _ e in
    let v = decimal_value n h in
    digits_read (decimal n) rest (decimal_digits n h) (decimal_any n h) (omega arith) d ∙ ap (λ m. Ok (m, rest)) v
