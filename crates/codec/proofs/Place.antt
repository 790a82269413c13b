-- The place of garbled bytes is the length of their longest front with which some call's bytes begin.
use Rattle.std.proofs.Common.{◌≡◌, ℕ, zero, suc, ◌+◌, ◌-◌, ◌<◌, ◌≤◌, true, false, cond, ◌||◌, eqb, ltb, ◌⊎◌, List, [], ◌∷◌, ◌++◌, length, take, sym, refl, ap, ◌∙◌, subst, inl, inr, arith}
use Rattle.std.proofs.lemmas.List.{append-nil, length-append, length-take-le}
use Rattle.std.proofs.lemmas.Bool.{cases_eq, cases_cond, true≢false}
use Rattle.model.specs.Calls.{garbled, bytes}
use Rattle.codec.specs.CallBytes.{numbers_end, open_ended, read_call}
use Rattle.codec.specs.Promises.{is_call, BeginsCall, LongestFront, GarbledAtLongestFront}
use Rattle.codec.proofs.Bytes.{bytes_cons, bytes_take, head_byte, tail_bytes}
use Rattle.codec.proofs.CallRead.{of_kind, Reads, no_kind, short, long, fits, reads, read_no_kind, read-long}
use Rattle.codec.proofs.Carried.{no_call}
use Rattle.codec.proofs.Begins.{begins, longest, longest_all, begins_none, is_of_kind, numbers-call, short-begins}
use Rattle.codec.proofs.RenamePlace.{rename-longest, rename_short}

-- there is a byte before the end of the numbers
end_is : (k : ℕ) → (numbers_end k ≡ 1) ⊎ ((numbers_end k ≡ 9) ⊎ (numbers_end k ≡ 17))
end_is k =
    elim (cases_cond (eqb k 11) 1 (cond (ltb k 4 || (eqb k 6 || eqb k 10)) 9 17) (numbers_end k) refl) [
      | inl e ↦ inl e
      | inr e ↦ inr (cases_cond (ltb k 4 || (eqb k 6 || eqb k 10)) 9 17 (numbers_end k) e)
    ]

end_pos : (k : ℕ) → 0 < numbers_end k
end_pos k = elim (end_is k) [ inl e ↦ omega arith | inr s ↦ elim s [ inl e ↦ omega arith | inr e ↦ omega arith ] ]

take_cons : (n k : ℕ) (b : List ℕ) → 0 < n → take n (k ∷ b) ≡ k ∷ take (n - 1) b
take_cons zero k b p = absurd (omega arith)
take_cons (suc n) k b p = let e : suc n - 1 ≡ n = omega arith in rw e

-- BYTES AFTER A CALL that ends with its numbers
long-longest :
    (k n : ℕ) (b : List ℕ) → k ≤ 11 → open_ended k ≡ false → bytes (k ∷ b) ≡ true → numbers_end k < suc (length b) →
    numbers_end k ≡ n → LongestFront (k ∷ b) n
long-longest k n b h o y l m =
    let fp = end_pos k in
    let ne : k ≡ 4 → ⊥ = λ e. true≢false (sym (ap open_ended e) ∙ o) in
    let f : ℕ = numbers_end k - 1 in
    let xs : List ℕ = take f b in
    let le : f ≤ length b = omega arith in
    let lf : length xs ≡ f = length-take-le f b le in
    let le' : numbers_end k ≤ length b = omega arith in
    let lf' : length (take (numbers_end k) b) ≡ numbers_end k = length-take-le (numbers_end k) b le' in
    let up : take (n + 1) (k ∷ b) ≡ k ∷ take (numbers_end k) b =
    take_cons (n + 1) k b (omega arith) ∙ ap (λ i. k ∷ take i b) (omega arith) in
    let at : take n (k ∷ b) ≡ k ∷ xs = ap (λ i. take i (k ∷ b)) (sym m) ∙ take_cons (numbers_end k) k b fp in
    longest (k ∷ b) n (omega arith)
    (subst BeginsCall (sym at)
    (begins (k ∷ xs) []
    (subst (λ ys. bytes (k ∷ ys) ≡ true) (sym (append-nil xs)) (bytes_cons k _ (head_byte k b y) (bytes_take f b (tail_bytes k b y))))
    (ap (λ ys. is_call (read_call (k ∷ ys))) (append-nil xs) ∙ numbers-call k xs h ne (omega arith))))
    (λ rest.
    let la : length (take (numbers_end k) b ++ rest) ≡ length (take (numbers_end k) b) + length rest =
    length-append (take (numbers_end k) b) rest in
    ap (λ ys. read_call (ys ++ rest)) up
    ∙ read-long k (take (numbers_end k) b ++ rest) h o (omega arith)
    ∙ ap garbled m)

-- EACH WAY that bytes are garbled
longest-by :
    (k : ℕ) (b : List ℕ) (n : ℕ) → bytes (k ∷ b) ≡ true → Reads k b → read_call (k ∷ b) ≡ garbled n → LongestFront (k ∷ b) n
longest-by k b n y (no_kind h q) g =
    let m : 0 ≡ n = cc in
    subst (LongestFront (k ∷ b)) m (longest (k ∷ b) 0 (omega arith) begins_none (λ rest. read_no_kind k rest h))
longest-by k b n y (short h s q) g =
    let m : suc (length b) ≡ n = cc in
    longest_all (k ∷ b) n (sym m) (elim (cases_eq k 4) [
      | inr ne ↦ short-begins k b h ne y s
      | inl e ↦
          subst (λ j. BeginsCall (j ∷ b)) (sym e)
          (rename_short b (tail_bytes k b y) (subst (λ j. suc (length b) < numbers_end j) e s))
    ])
longest-by k b n y (long h o l q) g = long-longest k n b h o y l (let m : numbers_end k ≡ n = cc in m)
longest-by k b n y (fits h l o q) g =
    elim (cases_eq k 4) [
      | inr ne ↦ absurd (no_call (of_kind k b) n (sym q ∙ g) (is_of_kind k b h ne))
      | inl e ↦
          let l' : 17 ≤ suc (length b) = subst (λ j. numbers_end j ≤ suc (length b)) e l in
          let g' : of_kind 4 b ≡ garbled n = subst (λ j. of_kind j b ≡ garbled n) e (sym q ∙ g) in
          subst (λ j. LongestFront (j ∷ b) n) (sym e) (rename-longest b n (tail_bytes k b y) l' g')
    ]

pub longest_front : GarbledAtLongestFront
longest_front [] n y g = let m : 0 ≡ n = cc in longest_all [] n (sym m) begins_none
longest_front (k ∷ b) n y g = longest-by k b n y (reads k b) g
