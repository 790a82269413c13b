-- Sums changed row by row: one row changed, what is then left to do, and that later rows are as they were.
use Rattle.std.proofs.Common.{◌≡◌, ℕ, suc, ◌+◌, ◌-◌, ◌*◌, ◌<◌, List, get_or, drop, set, sym, ap, ◌∙◌, arith}
use Rattle.std.proofs.lemmas.List.{drop-drop, drop-set-lt, get_or-drop}
use Rattle.tables.specs.Edits.{shifted_row, shifted}

-- with row k changed, those after it are left
pub shifted_more : (f g : ℕ → ℕ) (end k : ℕ) (ss ts : List ℕ) → k < end → ts ≡ shifted_row f g k ss →
    shifted f g (end - (k + 1)) (k + 1) ts ≡ shifted f g (end - k) k ss
shifted_more f g end k ss ts l e = let m : end - k ≡ suc (end - (k + 1)) = omega arith in rw (m, e)

-- and are as they were
pub later_same : (k x y : ℕ) (ss was : List ℕ) → drop (2 * k) ss ≡ drop (2 * k) was →
    drop (2 * (k + 1)) (set (set ss (2 * k) x) (2 * k + 1) y) ≡ drop (2 * (k + 1)) was
later_same k x y ss was e =
    let j : ℕ = 2 * k in
    let n : 2 * (k + 1) ≡ j + 2 = omega arith in
    let a = drop-set-lt (j + 2) (set ss j x) (j + 1) y (omega arith) in
    let b = drop-set-lt (j + 2) ss j x (omega arith) in
    let d : drop (j + 2) ss ≡ drop (j + 2) was = sym (drop-drop 2 j ss) ∙ (ap (drop 2) e ∙ drop-drop 2 j was) in
    rw n (a ∙ (b ∙ d))

-- the two words of the next row are as they were
pub next_entries : (j : ℕ) (ss was : List ℕ) → drop j ss ≡ drop j was → get_or ss j 0 ≡ get_or was j 0
next_entries j ss was e =
    let z : j + 0 ≡ j = omega arith in
    rw z at (sym (get_or-drop j ss 0 0) ∙ (ap (λ ws. get_or ws 0 0) e ∙ get_or-drop j was 0 0))

pub next_cells : (j : ℕ) (ss was : List ℕ) → drop j ss ≡ drop j was → get_or ss (j + 1) 0 ≡ get_or was (j + 1) 0
next_cells j ss was e = sym (get_or-drop j ss 1 0) ∙ (ap (λ ws. get_or ws 1 0) e ∙ get_or-drop j was 1 0)
