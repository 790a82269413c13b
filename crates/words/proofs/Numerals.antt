-- READING A NUMBER, step by step: what one byte does to it.
use Rattle.std.proofs.Common.{◌≡◌, ℕ, true, false, List, ◌∷◌, Some, Ok}
use Rattle.words.specs.Numbers.{digit, more, number_on}

pub step : (n b m : ℕ) (bs : List ℕ) → digit b ≡ true → more n b ≡ Some m → number_on n (b ∷ bs) ≡ number_on m bs
step n b m bs d e = rw (d, e)

pub end : (n b : ℕ) (bs : List ℕ) → digit b ≡ false → number_on n (b ∷ bs) ≡ Ok (n, b ∷ bs)
end n b bs d = rw d
