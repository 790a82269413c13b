-- WORDS ARE PRINTABLE: what is printed for any bytes has no space and nothing outside of printable ASCII.
use Rattle.std.proofs.Common.{◌≡◌, ℕ, zero, suc, ◌+◌, ◌/◌, ◌%◌, ◌<◌, ◌≤◌, true, not, ◌&&◌, eqb, ltb, leb, List, [], ◌∷◌, ◌++◌, refl, arith}
use Rattle.std.proofs.lemmas.Bool.{and_parts, and_from, ltb-true, leb-true, le-leb, cond_both}
use Rattle.std.proofs.lemmas.Bool.Decides.{nat_tests}
use Rattle.model.specs.Calls.{bytes}
use Rattle.words.specs.Law.{printable, WordsArePrintable}
use Rattle.words.specs.Numbers.{digit}
use Rattle.words.specs.Printed.{hex, print_number, print_byte, print_each, print_row, print_on}
use Rattle.words.specs.Words.{plain}
use Rattle.words.proofs.Figures.{digits, decimal_digits}

abbrev Fine : List ℕ → Type 0
Fine xs = printable xs ≡ true

fine_then : (xs ys : List ℕ) → Fine xs → Fine ys → Fine (xs ++ ys)
unfolding printable
fine_then [] ys p q = q
fine_then (x ∷ xs) ys p q =
    let r = and_parts (leb 33 x && leb x 126) (printable xs) p in
    and_from _ _ r.0 (fine_then xs ys r.1 q)

fine_more : (x : ℕ) (xs : List ℕ) → 33 ≤ x → x ≤ 126 → Fine xs → Fine (x ∷ xs)
unfolding printable
fine_more x xs l h p = and_from _ _ (and_from _ _ (le-leb 33 x l) (le-leb x 126 h)) p

fine_none : Fine []
unfolding printable
fine_none = refl

fine_digits : (ds : List ℕ) → digits ds ≡ true → Fine ds
fine_digits [] d = fine_none
fine_digits (c ∷ cs) d =
    let p = and_parts (digit c) (digits cs) d in
    let q = and_parts (leb 48 c) (leb c 57) p.0 in
    fine_more c cs (omega (arith, leb-true 48 c q.0)) (omega (arith, leb-true c 57 q.1)) (fine_digits cs p.1)

fine_hex : (v : ℕ) → v < 16 → (33 ≤ hex v) × (hex v ≤ 126)
fine_hex v h = (grind (arith, nat_tests), grind (arith, nat_tests))

fine_byte : (b : ℕ) → b < 256 → Fine (print_byte b)
fine_byte b h =
    let x = fine_hex (b / 16) (omega arith) in
    let y = fine_hex (b % 16) (omega arith) in
    cond_both (plain b) (b ∷ []) _ Fine
    (λ p. let q = and_parts (leb 33 b && leb b 126) (not (eqb b 92)) p in
    let r = and_parts (leb 33 b) (leb b 126) q.0 in
    fine_more b [] (leb-true 33 b r.0) (leb-true b 126 r.1) fine_none)
    (λ p. fine_more 92 _ (omega arith) (omega arith) (fine_more 120 _ (omega arith) (omega arith)
    (fine_more (hex (b / 16)) _ x.0 x.1 (fine_more (hex (b % 16)) [] y.0 y.1 fine_none))))

fine_each : (b n : ℕ) → b < 256 → Fine (print_each b n)
fine_each b zero h = fine_none
fine_each b (suc n) h = fine_then (print_byte b) (print_each b n) (fine_byte b h) (fine_each b n h)

fine_row : (b n : ℕ) → b < 256 → n < 18446744073709551616 → Fine (print_row b n)
fine_row b n h m =
    cond_both (ltb n 4) (print_each b n) _ Fine (λ _. fine_each b n h)
    (λ _. fine_then (print_byte b) _ (fine_byte b h) (fine_more 92 _ (omega arith) (omega arith)
    (fine_more 123 _ (omega arith) (omega arith) (fine_then (print_number n) (125 ∷ []) (fine_digits _ (decimal_digits n m))
    (fine_more 125 [] (omega arith) (omega arith) fine_none)))))

fine_on : (b n : ℕ) (xs : List ℕ) → b < 256 → n < 18446744073709551616 → bytes xs ≡ true → Fine (print_on b n xs)
unfolding bytes
fine_on b n [] h m e = fine_row b n h m
fine_on b n (x ∷ xs) h m e =
    let p = and_parts (ltb x 256) (bytes xs) e in
    cond_both (eqb x b && ltb n 18446744073709551615) (print_on b (n + 1) xs) _ Fine
    (λ t. let q = ltb-true n 18446744073709551615 (and_parts (eqb x b) (ltb n 18446744073709551615) t).1 in
    fine_on b (n + 1) xs h (omega arith) p.1)
    (λ _. fine_then (print_row b n) _ (fine_row b n h m) (fine_on x 1 xs (ltb-true x 256 p.0) (omega arith) p.1))

pub all_printable : WordsArePrintable
unfolding WordsArePrintable bytes
all_printable [] e = fine_more 92 (45 ∷ []) (omega arith) (omega arith) (fine_more 45 [] (omega arith) (omega arith) fine_none)
all_printable (b ∷ bs) e =
    let p = and_parts (ltb b 256) (bytes bs) e in
    fine_on b 1 bs (ltb-true b 256 p.0) (omega arith) p.1
