-- Words put into a padded table, taken out of it and written in it, by the table's parts. Lists alone.
use Rattle.std.proofs.Common.{◌≡◌, ℕ, ◌+◌, ◌-◌, ◌≤◌, List, ◌∷◌, ◌++◌, length, take, drop, set, replicate, sym, ◌∙◌, append_assoc, arith, length-append, drop-drop, take_at, drop_at}
use lib.Seq.{set_at}
use Rattle.std.proofs.lemmas.List.{drop-replicate, replicate-append-replicate}
use Rattle.blocks.specs.Words.{pad, opened, closed}

pub opened_pad : (n used at : ℕ) (front back row : List ℕ) → length front ≡ at → at + length back ≡ used → used + length row ≤ n →
    opened used at row (pad n (front ++ back)) ≡ pad n (front ++ (row ++ back))
opened_pad n used at front back row lf lb fits =
    let k : ℕ = length row in
    let r : ℕ = n - length (front ++ back) in
    let Z : List ℕ = replicate r 0 in
    let l : length (front ++ back) ≡ used = simp length-append (omega arith) in
    let e0 : (front ++ back) ++ Z ≡ front ++ (back ++ Z) = append_assoc front back Z in
    let e1 : take at (front ++ (back ++ Z)) ≡ front = take_at front (back ++ Z) at lf in
    let e2 : drop at (front ++ (back ++ Z)) ≡ back ++ Z = drop_at front (back ++ Z) at lf in
    let e3 : take (used - at) (back ++ Z) ≡ back = take_at back Z (used - at) (omega arith) in
    let e4 : drop used ((front ++ back) ++ Z) ≡ Z = drop_at (front ++ back) Z used l in
    let e5 : drop k (drop used ((front ++ back) ++ Z)) ≡ drop (used + k) ((front ++ back) ++ Z) = drop-drop k used _ in
    let e6 : drop k Z ≡ replicate (r - k) 0 = drop-replicate k r 0 in
    let e7 : n - length (front ++ (row ++ back)) ≡ r - k = simp length-append (omega arith) in
    let e8 : (front ++ (row ++ back)) ++ replicate (r - k) 0 ≡ front ++ (row ++ (back ++ replicate (r - k) 0)) = simp append_assoc in
    cc

pub closed_pad : (n used at k : ℕ) (front mid back : List ℕ) → length front ≡ at → length mid ≡ k → (at + k) + length back ≡ used →
    used ≤ n → closed used at k (pad n (front ++ (mid ++ back))) ≡ pad n (front ++ back)
closed_pad n used at k front mid back lf lm lb fits =
    let r : ℕ = n - length (front ++ (mid ++ back)) in
    let Z : List ℕ = replicate r 0 in
    let W : List ℕ = (front ++ (mid ++ back)) ++ Z in
    let l : length (front ++ (mid ++ back)) ≡ used = simp length-append (omega arith) in
    let l2 : length (front ++ mid) ≡ at + k = simp length-append (omega arith) in
    let e0 : W ≡ front ++ (mid ++ (back ++ Z)) = simp append_assoc in
    let e1 : take at (front ++ (mid ++ (back ++ Z))) ≡ front = take_at front (mid ++ (back ++ Z)) at lf in
    let e2 : W ≡ (front ++ mid) ++ (back ++ Z) = simp append_assoc in
    let e3 : drop (at + k) ((front ++ mid) ++ (back ++ Z)) ≡ back ++ Z = drop_at (front ++ mid) (back ++ Z) (at + k) l2 in
    let e4 : take (used - (at + k)) (back ++ Z) ≡ back = take_at back Z (used - (at + k)) (omega arith) in
    let e5 : drop used W ≡ Z = drop_at (front ++ (mid ++ back)) Z used l in
    let e6 : replicate {A = ℕ} k 0 ++ replicate r 0 ≡ replicate (k + r) 0 = replicate-append-replicate k r 0 in
    let e7 : n - length (front ++ back) ≡ k + r = simp length-append (omega arith) in
    let e8 : (front ++ back) ++ replicate (k + r) 0 ≡ front ++ (back ++ replicate (k + r) 0) = append_assoc front back _ in
    cc

pub set-pad : (n at : ℕ) (front back : List ℕ) (x y : ℕ) → length front ≡ at →
    set (pad n (front ++ (x ∷ back))) at y ≡ pad n (front ++ (y ∷ back))
set-pad n at front back x y lf =
    let Z : List ℕ = replicate (n - length (front ++ (x ∷ back))) 0 in
    let l : length (front ++ (y ∷ back)) ≡ length (front ++ (x ∷ back)) =
    length-append front (y ∷ back) ∙ sym (length-append front (x ∷ back)) in
    let e1 : (front ++ (x ∷ back)) ++ Z ≡ front ++ (x ∷ (back ++ Z)) = append_assoc front (x ∷ back) Z in
    let e2 : (front ++ (y ∷ back)) ++ Z ≡ front ++ (y ∷ (back ++ Z)) = append_assoc front (y ∷ back) Z in
    let e3 : set (front ++ (x ∷ (back ++ Z))) at y ≡ front ++ (y ∷ (back ++ Z)) = set_at front x (back ++ Z) y at lf in
    cc
