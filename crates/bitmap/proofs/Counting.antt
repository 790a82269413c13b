-- Set bits counted word by word.
use Rattle.std.proofs.Common.{◌≡◌, ℕ, suc, ◌+◌, ◌^◌, ◌<◌, Bool, List, [], ◌∷◌, ◌++◌, get_or, refl, sym, ap, ◌∙◌, arith}
use lib.Count.{ones}
use Rattle.std.specs.List.{sum_by}
use Rattle.std.proofs.lemmas.List.Sums.{sum_by-cons}
use Rattle.blocks.specs.Bits.{word_bits, bits_of}
use Rattle.machine.specs.State.{count_set}
use Rattle.bitmap.proofs.WordBits.{count_word}

pub count-append : (xs ys : List Bool) → count_set (xs ++ ys) ≡ count_set xs + count_set ys
unfolding count_set
count-append [] ys = omega arith
count-append (x ∷ xs) ys = let i = count-append xs ys in omega arith

-- and of all words
pub count_all : (ws : List ℕ) → ((k : ℕ) → get_or ws k 0 < 2 ^ 64) → sum_by (λ w. ones w) ws ≡ count_set (bits_of ws)
unfolding count_set
count_all [] fits = refl
count_all (w ∷ ws) fits =
    sum_by-cons (λ w. ones w) w ws
    ∙ (ap (λ n. n + sum_by (λ w. ones w) ws) (sym (count_word w (fits 0)))
    ∙ (ap (λ n. count_set (word_bits w) + n) (count_all ws (λ k. fits (suc k)))
    ∙ sym (count-append (word_bits w) (bits_of ws))))
