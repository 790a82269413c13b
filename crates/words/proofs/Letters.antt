-- READING A WORD, step by step: what one byte does to it.
use Rattle.std.proofs.Common.{◌≡◌, ℕ, true, false, eqb, List, ◌∷◌, ◌++◌, Some, Ok}
use Rattle.words.specs.declared.reading.Reading.{Reading}
use Rattle.words.specs.Words.{next, added, whole, close, word_on}

pub step : (s t : Reading) (out : List ℕ) (b : ℕ) (bs : List ℕ) → eqb b 32 ≡ false → next s b ≡ Some t →
    word_on s out (b ∷ bs) ≡ word_on t (out ++ added t) bs
step s t out b bs d e = rw (d, e)

pub end : (s : Reading) (out : List ℕ) (b : ℕ) (bs : List ℕ) → eqb b 32 ≡ true → word_on s out (b ∷ bs) ≡ close s out (b ∷ bs)
end s out b bs d = rw d

pub closed : (s : Reading) (out bs : List ℕ) → whole s ≡ true → close s out bs ≡ Ok (out, bs)
closed s out bs e = rw e
