-- What a slice of bytes has are bytes, and a name of 1 to 64 of them is a name.
use Rattle.std.proofs.Common.{◌≡◌, ℕ, suc, true, List, [], ◌∷◌, get_or, refl, arith, w8, Fits}
use Rattle.std.proofs.lemmas.Bool.{lt-ltb, and_from}
use Rattle.model.specs.Calls.{bytes, good_name}
use Rattle.machine.specs.Fits.{ok_name}

pub bytes_typed : (xs : List ℕ) → ((i : ℕ) → Fits w8 (get_or xs i 0)) → bytes xs ≡ true
unfolding bytes
bytes_typed [] f = refl
bytes_typed (x ∷ xs) f = and_from _ _ (lt-ltb x 256 (omega (arith, f 0))) (bytes_typed xs (λ i. f (suc i)))

pub ok_typed : (n : List ℕ) → ((i : ℕ) → Fits w8 (get_or n i 0)) → good_name n ≡ true → ok_name n ≡ true
ok_typed n f g = and_from _ _ g (bytes_typed n f)
