-- Elements of lists: of two, one after the other, and of what is left of one; and what a search tells.
use Rattle.std.proofs.Common.{◌≡◌, ℕ, zero, suc, ◌+◌, ◌-◌, ◌<◌, ◌≤◌, List, [], ◌∷◌, ◌++◌, length, get_or, drop, ltb, cond, true, false, Some, None, inl, inr, refl, sym, ap, ◌∙◌, arith, drop-drop, length-drop}
use Rattle.std.proofs.lemmas.Bool.{cases_lt, lt-ltb, le-ltb}
use Rattle.std.proofs.lemmas.List.{get_or-drop}
use Rattle.std.specs.List.{slice_get}

pub nth_left : (xs ys : List ℕ) (n : ℕ) → n < length xs → slice_get (xs ++ ys) n ≡ slice_get xs n
nth_left [] ys n h = absurd (omega arith)
nth_left (x ∷ xs) ys zero h = refl
nth_left (x ∷ xs) ys (suc n) h = nth_left xs ys n (omega arith)

pub nth_right : (xs ys : List ℕ) (n : ℕ) → length xs ≤ n → slice_get (xs ++ ys) n ≡ slice_get ys (n - length xs)
nth_right [] ys n h = ap (slice_get ys) (omega arith)
nth_right (x ∷ xs) ys zero h = absurd (omega arith)
nth_right (x ∷ xs) ys (suc n) h = nth_right xs ys n (omega arith) ∙ ap (slice_get ys) (omega arith)

-- what a search tells: the place at which it ended, or that it passed the end
pub place_some : (k n i : ℕ) → cond (ltb k n) (Some k) None ≡ Some i → (k ≡ i) × (k < n)
place_some k n i e = elim (cases_lt k n) [
  | inl h ↦ let t : ltb k n ≡ true = lt-ltb k n h in let s : Some k ≡ Some i = rw t at e in (cc, h)
  | inr h ↦ let t : ltb k n ≡ false = le-ltb k n h in let s : None ≡ Some i = rw t at e in absurd (cc)
]

pub place_none : (k n : ℕ) → cond (ltb k n) (Some k) None ≡ None → n ≤ k
place_none k n e = elim (cases_lt k n) [
  | inl h ↦ let t : ltb k n ≡ true = lt-ltb k n h in let s : Some k ≡ None = rw t at e in absurd (cc)
  | inr h ↦ h
]

-- the next of what is left of a list
pub drop_step : (xs rest : List ℕ) (n x : ℕ) → drop n xs ≡ x ∷ rest → (n < length xs) × (get_or xs n 0 ≡ x) × (rest ≡ drop (n + 1) xs)
drop_step xs rest n x e =
    let z : n + 0 ≡ n = omega arith in
    let g : get_or (drop n xs) 0 0 ≡ get_or xs (n + 0) 0 = get_or-drop n xs 0 0 in (
      omega (arith, ap length e, length-drop n xs),
      ap (λ i. get_or xs i 0) (sym z) ∙ (sym g ∙ ap (λ ys. get_or ys 0 0) e),
      sym (ap (drop 1) e) ∙ drop-drop 1 n xs,
    )
