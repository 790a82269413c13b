-- PRINTING A WORD, step by step: what is printed so far and what is left to print.
use Rattle.std.proofs.Common.{◌≡◌, ℕ, zero, suc, ◌+◌, ◌<◌, ◌≤◌, true, false, ◌&&◌, eqb, ltb, List, [], ◌∷◌, ◌++◌, length, get_or, drop, sym, ap, ◌∙◌, ⊎_elim, append-nil, append_assoc, add-one, arith}
use Rattle.std.specs.List.{prefix_len}
use Rattle.std.proofs.lemmas.Bool.{and_from, and_left, cases_Bool, eq-eqb, lt-ltb}
use Rattle.words.specs.Printed.{print_byte, print_each, print_row, print_on, rows}

-- one byte more of those that are printed one by one
pub each_more : (b k : ℕ) → print_each b (k + 1) ≡ print_each b k ++ print_byte b
each_more b zero = append-nil (print_byte b)
each_more b (suc k) =
    ap (print_each b) (add-one (suc k)) ∙ ap (λ t. print_byte b ++ t) (ap (print_each b) (sym (add-one k)) ∙ each_more b k)
    ∙ sym (append_assoc (print_byte b) (print_each b k) (print_byte b))

same : (b n x : ℕ) (xs : List ℕ) → (eqb x b && ltb n 18446744073709551615) ≡ true →
    print_on b n (x ∷ xs) ≡ print_on b (n + 1) xs
same b n x xs e = rw e

other : (b n x : ℕ) (xs : List ℕ) → (eqb x b && ltb n 18446744073709551615) ≡ false →
    print_on b n (x ∷ xs) ≡ print_row b n ++ print_on x 1 xs
other b n x xs e = rw e

-- one byte more of a row
taken : (b n k x : ℕ) (xs : List ℕ) →
    print_row b (n + 1 + k) ++ rows (drop k xs) ≡ print_row b (n + (1 + k)) ++ rows (drop (1 + k) (x ∷ xs))
taken b n k x xs =
    let e : n + 1 + k ≡ n + (1 + k) = omega arith in
    let f : suc k ≡ 1 + k = omega arith in
    ap (λ j. print_row b j ++ rows (drop k xs)) e ∙ ap (λ j. print_row b (n + (1 + k)) ++ rows (drop j (x ∷ xs))) f

nothing_more : (n : ℕ) → n ≡ n + 0
nothing_more n = omega arith

-- a row goes as far as its byte does, and the rows of what is left follow
row_on : (b n : ℕ) (xs : List ℕ) → n + length xs ≤ 18446744073709551615 →
    print_on b n xs ≡ print_row b (n + prefix_len (λ x. eqb x b) xs) ++ rows (drop (prefix_len (λ x. eqb x b) xs) xs)
row_on b n [] h = ap (print_row b) (nothing_more n) ∙ sym (append-nil (print_row b (n + 0)))
row_on b n (x ∷ xs) h =
    ⊎_elim
    (λ e. same b n x xs (and_from _ _ e (lt-ltb _ _ (omega arith)))
    ∙ row_on b (n + 1) xs (omega arith) ∙ rw e (taken b n (prefix_len (λ y. eqb y b) xs) x xs))
    (λ e. other b n x xs (and_left _ _ e) ∙ rw e (ap (λ j. print_row b j ++ rows (x ∷ xs)) (nothing_more n)))
    (cases_Bool (eqb x b))

-- the first row of some bytes
pub row_first : (bs : List ℕ) (b n : ℕ) (left : List ℕ) → 0 < length bs → length bs < 18446744073709551616 →
    b ≡ get_or bs 0 b → n ≡ prefix_len (λ x. eqb x b) bs → left ≡ drop n bs → rows bs ≡ print_row b n ++ rows left
row_first [] b n left h l e m k = absurd (omega arith)
row_first (x ∷ xs) b n left h l e m k =
    let run : ℕ = prefix_len (λ y. eqb y b) xs in
    let f : suc run ≡ 1 + run = omega arith in
    let g : n ≡ 1 + run = m ∙ rw (eq-eqb x b (sym e)) in
    ap (λ z. print_on z 1 xs) (sym e) ∙ row_on b 1 xs (omega arith)
    ∙ ap (λ j. print_row b (1 + run) ++ rows (drop j (x ∷ xs))) f ∙ ap (λ j. print_row b j ++ rows (drop j (x ∷ xs))) (sym g)
    ∙ ap (λ t. print_row b n ++ rows t) (sym k)
