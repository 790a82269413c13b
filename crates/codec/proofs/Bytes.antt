-- Lists of bytes: their parts are bytes, and so is what is made of bytes.
use Rattle.std.proofs.Common.{◌≡◌, ℕ, zero, suc, ◌<◌, true, List, [], ◌∷◌, ◌++◌, get_or, take, drop, refl, arith}
use Rattle.std.proofs.lemmas.Bool.{ltb-true, lt-ltb, and_parts, and_from}
use Rattle.model.specs.Calls.{bytes}

-- one byte and the rest
pub head_byte : (x : ℕ) (xs : List ℕ) → bytes (x ∷ xs) ≡ true → x < 256
unfolding bytes
head_byte x xs e = ltb-true _ _ (and_parts _ _ e).0

pub tail_bytes : (x : ℕ) (xs : List ℕ) → bytes (x ∷ xs) ≡ true → bytes xs ≡ true
unfolding bytes
tail_bytes x xs e = (and_parts _ _ e).1

pub bytes_cons : (x : ℕ) (xs : List ℕ) → x < 256 → bytes xs ≡ true → bytes (x ∷ xs) ≡ true
unfolding bytes
bytes_cons x xs l e = and_from _ _ (lt-ltb _ _ l) e

pub bytes_nil : bytes [] ≡ true
unfolding bytes
bytes_nil = refl

pub byte_at : (xs : List ℕ) (i : ℕ) → bytes xs ≡ true → get_or xs i 0 < 256
byte_at [] i p = omega arith
byte_at (x ∷ xs) zero p = head_byte x xs p
byte_at (x ∷ xs) (suc i) p = byte_at xs i (tail_bytes x xs p)

pub bytes-append : (xs ys : List ℕ) → bytes xs ≡ true → bytes ys ≡ true → bytes (xs ++ ys) ≡ true
bytes-append [] ys p q = q
bytes-append (x ∷ xs) ys p q = bytes_cons x (xs ++ ys) (head_byte x xs p) (bytes-append xs ys (tail_bytes x xs p) q)

pub bytes_take : (n : ℕ) (xs : List ℕ) → bytes xs ≡ true → bytes (take n xs) ≡ true
bytes_take zero xs p = bytes_nil
bytes_take (suc n) [] p = bytes_nil
bytes_take (suc n) (x ∷ xs) p = bytes_cons x (take n xs) (head_byte x xs p) (bytes_take n xs (tail_bytes x xs p))

pub bytes_drop : (n : ℕ) (xs : List ℕ) → bytes xs ≡ true → bytes (drop n xs) ≡ true
bytes_drop zero xs p = p
bytes_drop (suc n) [] p = p
bytes_drop (suc n) (x ∷ xs) p = bytes_drop n xs (tail_bytes x xs p)
