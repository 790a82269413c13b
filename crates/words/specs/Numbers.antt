-- NUMBERS AS TEXT: decimal digits, one or more, for a number below 2^64. Zeros may lead. A number is read as far as its
-- digits go; it ceases to be one at the digit with which it would be too large. Definitions only.
use Rattle.std.specs.Prelude.{ℕ, suc, ◌+◌, ◌-◌, ◌*◌, Bool, cond, ◌&&◌, List, [], ◌∷◌, length, Some, None, Ok, Err, Option, Result, nat_le, nat_lt, slice_index}
use Rattle.words.specs.Outcome.{or_stop}

abbrev pub digit : ℕ → Bool
digit b = nat_le 48 b && nat_le b 57

-- the number n and one more digit
abbrev pub more : ℕ → ℕ → Option ℕ
more n b = cond (nat_lt (n * 10 + (b - 48)) 18446744073709551616) (Some (n * 10 + (b - 48))) None

-- what is left of the bytes of a number, after n so far
abbrev pub number_on : ℕ → List ℕ → Result (ℕ × List ℕ) ℕ
number_on n [] = Ok (n, [])
number_on n (b ∷ bs) = cond (digit b) (or_stop (more n b) (suc (length bs)) (λ m. number_on m bs)) (Ok (n, b ∷ bs))

abbrev pub read_number : List ℕ → Result (ℕ × List ℕ) ℕ
read_number bs = cond (digit (slice_index bs 0)) (number_on 0 bs) (Err (length bs))
