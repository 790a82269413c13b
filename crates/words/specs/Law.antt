-- WHAT IS PROMISED of words and numbers: what is printed is read back. Definitions only: the proofs stand elsewhere.
use Rattle.std.specs.Prelude.{◌≡◌, ℕ, Bool, true, false, ◌&&◌, List, [], ◌∷◌, ◌++◌, Ok, ◌==◌, nat_le, slice_index}
use Rattle.model.specs.Calls.{bytes, eight}
use Rattle.words.specs.Numbers.{digit, read_number}
use Rattle.words.specs.Words.{read_word}
use Rattle.words.specs.Printed.{print_number, print_word}

-- where a word may end: before a space, or with its line
abbrev pub ends : List ℕ → Bool
ends [] = true
ends (b ∷ bs) = b == 32

-- 1. any bytes are read back from their word, wherever it stands
unfoldable pub WordsComeBack : Type 0
WordsComeBack =
    (bs rest : List ℕ) → bytes bs ≡ true → ends rest ≡ true → read_word (print_word bs ++ rest) ≡ Ok (bs, rest)

-- 2. a number is read back from its digits, wherever they end
unfoldable pub NumbersComeBack : Type 0
NumbersComeBack =
    (n : ℕ) (rest : List ℕ) → eight n ≡ true → digit (slice_index rest 0) ≡ false →
    read_number (print_number n ++ rest) ≡ Ok (n, rest)

-- 3. what is printed for bytes is printable ASCII with no space, so that it stays one word of one line
unfoldable pub printable : List ℕ → Bool
printable [] = true
printable (b ∷ bs) = (nat_le 33 b && nat_le b 126) && printable bs

unfoldable pub WordsArePrintable : Type 0
WordsArePrintable = (bs : List ℕ) → bytes bs ≡ true → printable (print_word bs) ≡ true
