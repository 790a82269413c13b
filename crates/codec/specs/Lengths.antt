-- A LENGTH AS BYTES: its digits in base 128, the lowest first. All but the last have 128 added, and the last is no zero
-- unless it is the only one. Definitions only.
use Rattle.std.specs.Prelude.{ℕ, zero, suc, ◌+◌, ◌*◌, ◌/◌, ◌%◌, cond, List, [], ◌∷◌, Some, None, Option, nat_lt}

-- in at most so many steps
abbrev pub digits_by : ℕ → ℕ → List ℕ
digits_by zero n = n ∷ []
digits_by (suc f) n = cond (nat_lt n 128) (n ∷ []) ((128 + n % 128) ∷ digits_by f (n / 128))

abbrev pub digits : ℕ → List ℕ
digits n = digits_by n n

-- how many bytes at the front have 128 added: as many digits stand before the last one
abbrev pub high : List ℕ → ℕ
high [] = 0
high (b ∷ bs) = cond (nat_lt b 128) 0 (suc (high bs))

-- what digits stand for
abbrev pub value : List ℕ → ℕ
value [] = 0
value (b ∷ bs) = b % 128 + 128 * value bs

-- a length, where it is no more than there is room for
abbrev pub up_to : ℕ → ℕ → Option ℕ
up_to most n = cond (nat_lt most n) None (Some n)
