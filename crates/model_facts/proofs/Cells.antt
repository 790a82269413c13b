-- Cells kept, and cells after power was lost: how many there are, and what each has now.
use Rattle.std.proofs.Common.{◌≡◌, ℕ, zero, suc, List, [], ◌∷◌, length, get_or, set, refl, ap, ◌∙◌, length-set}
use Rattle.model.specs.Fs.{Cell, empty_cell, kept, kept_all, chosen, numbers}

pub nth_one : {A : Type 0} (a : A) (n : ℕ) → get_or (a ∷ []) n a ≡ a
nth_one a zero = refl
nth_one a (suc n) = refl

pub length-numbers : (m k : ℕ) → length (numbers m k) ≡ m
unfolding numbers
length-numbers zero k = refl
length-numbers (suc m) k = ap suc (length-numbers m (suc k))

pub length-chosen : (g : ℕ → ℕ) (k : ℕ) (cs : List Cell) → length (chosen g k cs) ≡ length cs
unfolding chosen
length-chosen g k [] = refl
length-chosen g k (c ∷ cs) = ap suc (length-chosen g (suc k) cs)

pub length-kept_all : (ks : List ℕ) (cs : List Cell) → length (kept_all ks cs) ≡ length cs
unfolding kept_all
length-kept_all [] cs = refl
length-kept_all (k ∷ ks) cs = length-kept_all ks _ ∙ length-set cs k _

-- what a cell has now stays where cells are kept
abbrev pub one_kept : List Cell → ℕ → List Cell
one_kept cs k = set cs k (kept (get_or cs k empty_cell))

one_now : (cs : List Cell) (k j : ℕ) → (get_or (one_kept cs k) j empty_cell).now ≡ (get_or cs j empty_cell).now
one_now [] k j = refl
one_now (c ∷ cs) zero zero = refl
one_now (c ∷ cs) zero (suc j) = refl
one_now (c ∷ cs) (suc k) zero = refl
one_now (c ∷ cs) (suc k) (suc j) = one_now cs k j

pub now_all : (ks : List ℕ) (cs : List Cell) (j : ℕ) → (get_or (kept_all ks cs) j empty_cell).now ≡ (get_or cs j empty_cell).now
unfolding kept_all
now_all [] cs j = refl
now_all (k ∷ ks) cs j = now_all ks (one_kept cs k) j ∙ one_now cs k j
