-- BITMAPS: 64 bits to a word, the lowest first. Definitions only.
use Rattle.std.specs.Prelude.{ℕ, zero, suc, ◌+◌, ◌*◌, ◌/◌, ◌%◌, Bool, cond, List, [], ◌∷◌, ◌++◌, take, drop, ◌==◌}

-- the n lowest bits of a word, and all 64
abbrev pub low_bits : ℕ → ℕ → List Bool
low_bits zero w = []
low_bits (suc n) w = (w % 2 == 1) ∷ low_bits n (w / 2)

unfoldable pub word_bits : ℕ → List Bool
word_bits w = low_bits 64 w

-- the bits of all words
abbrev pub bits_of : List ℕ → List Bool
bits_of [] = []
bits_of (w ∷ ws) = word_bits w ++ bits_of ws

-- bits as a number, and as n words
unfoldable pub bits_word : List Bool → ℕ
bits_word [] = 0
bits_word (b ∷ bs) = cond b 1 0 + 2 * bits_word bs

abbrev pub bits_words : ℕ → List Bool → List ℕ
bits_words zero bs = []
bits_words (suc n) bs = bits_word (take 64 bs) ∷ bits_words n (drop 64 bs)
