-- Bits followed by zeros: counted, taken, marked and shared they are as without.
use Rattle.std.proofs.Common.{◌≡◌, ℕ, zero, suc, ◌+◌, ◌<◌, ◌≤◌, Bool, true, false, List, [], ◌∷◌, ◌++◌, length, set, replicate, refl, ap, ◌∙◌, append-nil, arith, length-set}
use Rattle.std.specs.List.{AllByRecursion}
use Rattle.std.proofs.lemmas.List.{set-append_left}
use Rattle.machine.specs.State.{count_set, free, marked, both}
use Rattle.tables.specs.Own.{unmarked}
use Rattle.bitmap.specs.Laws.{CountPadded, FreePadded, FreeBelow, MarkedPadded, BothPadded, UnmarkedPadded}
use Rattle.bitmap.proofs.Counting.{count-append}
use Rattle.bitmap.proofs.Shared.{both-append}

count_zeros : (m : ℕ) → count_set (replicate m false) ≡ 0
unfolding count_set
count_zeros zero = refl
count_zeros (suc m) = let i = count_zeros m in omega arith

pub count_padded : CountPadded
count_padded m bs =
    let a = count-append bs (replicate m false) in
    let z = count_zeros m in
    omega arith

pub free_padded : FreePadded
unfolding free count_set
free_padded zero m k bs h = refl
free_padded (suc n) m k [] h = absurd (omega arith)
free_padded (suc n) m k (true ∷ bs) h = free_padded (suc n) m (suc k) bs (omega arith)
free_padded (suc n) m k (false ∷ bs) h = ap (λ t. k ∷ t) (free_padded n m (suc k) bs (omega arith))

below : (n k d : ℕ) (bs : List Bool) → k + length bs ≤ d → AllByRecursion (λ x. x < d) (free n bs k)
unfolding free
below zero k d bs h = tt
below (suc n) k d [] h = tt
below (suc n) k d (true ∷ bs) h = below (suc n) (suc k) d bs (omega arith)
below (suc n) k d (false ∷ bs) h = (omega arith, below n (suc k) d bs (omega arith))

pub free_below : FreeBelow
free_below n bs = below n 0 (length bs) bs (omega arith)

marked_before : (d : ℕ) (ks : List ℕ) (bs zs : List Bool) → length bs ≡ d → AllByRecursion (λ x. x < d) ks →
    marked ks (bs ++ zs) ≡ marked ks bs ++ zs
unfolding marked
marked_before d [] bs zs e h = refl
marked_before d (k ∷ ks) bs zs e h =
    ap (marked ks) (set-append_left bs zs k true (omega arith))
    ∙ marked_before d ks (set bs k true) zs (length-set bs k true ∙ e) h.1

unmarked_before : (d : ℕ) (ks : List ℕ) (bs zs : List Bool) → length bs ≡ d → AllByRecursion (λ x. x < d) ks →
    unmarked ks (bs ++ zs) ≡ unmarked ks bs ++ zs
unfolding unmarked
unmarked_before d [] bs zs e h = refl
unmarked_before d (k ∷ ks) bs zs e h =
    ap (unmarked ks) (set-append_left bs zs k false (omega arith))
    ∙ unmarked_before d ks (set bs k false) zs (length-set bs k false ∙ e) h.1

pub unmarked_padded : UnmarkedPadded
unmarked_padded m ks bs h = unmarked_before (length bs) ks bs (replicate m false) refl h

pub marked_padded : MarkedPadded
marked_padded m ks bs h = marked_before (length bs) ks bs (replicate m false) refl h

both_zeros : (m k : ℕ) → both (replicate m false) (replicate m false) k ≡ []
unfolding both
both_zeros zero k = refl
both_zeros (suc m) k = both_zeros m (suc k)

pub both_padded : BothPadded
both_padded m k cs bs e =
    both-append cs bs (replicate m false) (replicate m false) k e
    ∙ (ap (λ t. both cs bs k ++ t) (both_zeros m (k + length cs)) ∙ append-nil (both cs bs k))
