-- WORDS AND NUMBERS AS THEY ARE PRINTED. A byte is printed as itself where it may stand for itself, else as `\xHH`; 4 or
-- more equal bytes in a row are printed as one and `\{N}`, a row of 2^64 or more in parts; no bytes are `\-`. A number is
-- printed in decimal with no zero in front. Definitions only.
use Rattle.std.specs.Prelude.{ℕ, zero, suc, ◌+◌, ◌/◌, ◌%◌, cond, ◌&&◌, List, [], ◌∷◌, ◌++◌, decimal, ◌==◌, nat_lt}
use Rattle.words.specs.Words.{plain}

abbrev pub print_number : ℕ → List ℕ
print_number n = decimal n

-- the digit for a value below 16
abbrev pub hex : ℕ → ℕ
hex v = cond (nat_lt v 10) (48 + v) (87 + v)

abbrev pub print_byte : ℕ → List ℕ
print_byte b = cond (plain b) (b ∷ []) (92 ∷ 120 ∷ hex (b / 16) ∷ hex (b % 16) ∷ [])

abbrev pub print_each : ℕ → ℕ → List ℕ
print_each b zero = []
print_each b (suc n) = print_byte b ++ print_each b n

-- a byte n times in a row
abbrev pub print_row : ℕ → ℕ → List ℕ
print_row b n = cond (nat_lt n 4) (print_each b n) (print_byte b ++ (92 ∷ 123 ∷ print_number n ++ (125 ∷ [])))

-- the bytes bs, after the byte b n times in a row
abbrev pub print_on : ℕ → ℕ → List ℕ → List ℕ
print_on b n [] = print_row b n
print_on b n (x ∷ xs) =
    cond (x == b && nat_lt n 18446744073709551615) (print_on b (n + 1) xs) (print_row b n ++ print_on x 1 xs)

-- bytes, row after row
abbrev pub rows : List ℕ → List ℕ
rows [] = []
rows (b ∷ bs) = print_on b 1 bs

abbrev pub print_word : List ℕ → List ℕ
print_word [] = 92 ∷ 45 ∷ []
print_word (b ∷ bs) = print_on b 1 bs
