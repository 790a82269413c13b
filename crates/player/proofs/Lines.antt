-- A LINE OF A TEXT goes as far as the place of the first line feed.
use Rattle.std.proofs.Common.{◌≡◌, ℕ, ◌<◌, ◌≤◌, cond, eqb, List, [], ◌∷◌, length, Some, None, sym, refl, ap, ◌∙◌, ⊎_elim, arith}
use Rattle.std.specs.List.{position, position_or_len}
use Rattle.std.proofs.lemmas.Bool.{cases_lt, cond-true, cond-false, cond_both, lt-ltb, le-ltb}
use Rattle.std.proofs.lemmas.List.Recursion.{is_position_or_len}
use Rattle.player.specs.Split.{line_length}

feed_at : (xs : List ℕ) → line_length xs ≡ position_or_len (λ b. eqb b 10) xs
feed_at xs = is_position_or_len line_length (λ b. eqb b 10) refl (λ y ys. ap (λ n. cond (eqb y 10) 0 n) (omega arith)) xs

pub found : (xs : List ℕ) (n : ℕ) → position (λ b. eqb b 10) xs ≡ Some n → (line_length xs ≡ n) × (n < length xs)
found xs n h =
    ⊎_elim
    (λ l. let e : n ≡ position_or_len (λ b. eqb b 10) xs = cc (h, cond-true _ (Some (position_or_len (λ b. eqb b 10) xs)) None (lt-ltb _ _ l)) in
    (feed_at xs ∙ sym e, omega arith))
    (λ l. absurd (cc (h, cond-false _ (Some (position_or_len (λ b. eqb b 10) xs)) None (le-ltb _ _ l))))
    (cases_lt (position_or_len (λ b. eqb b 10) xs) (length xs))

within : (xs : List ℕ) → line_length xs ≤ length xs
within [] = omega arith
within (x ∷ xs) = let h = within xs in cond_both (eqb x 10) 0 _ (λ n. n ≤ length (x ∷ xs)) (λ _. omega arith) (λ _. omega arith)

pub missing : (xs : List ℕ) → position (λ b. eqb b 10) xs ≡ None → line_length xs ≡ length xs
missing xs h =
    ⊎_elim
    (λ l. absurd (cc (h, cond-true _ (Some (position_or_len (λ b. eqb b 10) xs)) None (lt-ltb _ _ l))))
    (λ l. omega (arith, feed_at xs, within xs))
    (cases_lt (position_or_len (λ b. eqb b 10) xs) (length xs))
