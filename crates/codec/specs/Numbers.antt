-- NUMBERS AS BYTES: a number below 2^64 is eight bytes, the lowest first. Definitions only.
use Rattle.std.specs.Prelude.{ℕ, ◌+◌, ◌*◌, ◌/◌, ◌%◌, List, [], ◌∷◌, slice_index}

abbrev pub le8 : ℕ → List ℕ
le8 n =
    (n % 256) ∷ (n / 256 % 256) ∷ (n / 65536 % 256) ∷ (n / 16777216 % 256) ∷ (n / 4294967296 % 256) ∷
    (n / 1099511627776 % 256) ∷ (n / 281474976710656 % 256) ∷ (n / 72057594037927936 % 256) ∷ []

-- the number that the first eight bytes stand for
abbrev pub from_le8 : List ℕ → ℕ
from_le8 b =
    slice_index b 0 + slice_index b 1 * 256 + slice_index b 2 * 65536 + slice_index b 3 * 16777216 + slice_index b 4 * 4294967296 +
    slice_index b 5 * 1099511627776 + slice_index b 6 * 281474976710656 + slice_index b 7 * 72057594037927936
