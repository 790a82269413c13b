-- Words put into a table and taken out of it: what a turn of a part and a write to it leave is what the definitions say.
use Rattle.std.proofs.Common.{◌≡◌, ℕ, ◌+◌, ◌-◌, ◌≤◌, List, ◌++◌, length, take, drop, replicate, sym, ◌∙◌, append_assoc, arith, length-append, length-drop, length-take, take-take, drop-drop, take_at, drop_at}
use borrow.Rule.Slice.PartMut.{put_mid}
use Rattle.std.proofs.lemmas.List.{length-take-le, drop-take}
use Rattle.blocks.specs.Words.{part, opened, closed}

-- a part turned up by n words: room was made there
pub rotated_in : (at used n m : ℕ) (T R : List ℕ) → at ≤ used → used + n ≤ length T → m ≡ (used + n) - at →
    R ≡ drop (length (take m (drop at T)) - n) (take m (drop at T))
    ++ take (length (take m (drop at T)) - n) (take m (drop at T)) →
    put_mid at m T R ≡ opened used at (part used n T) T
rotated_in at used n m T R le fits em er =
    let P : List ℕ = take m (drop at T) in
    let X : List ℕ = drop m (drop at T) in
    let D : List ℕ = drop (used - at) P in
    let E : List ℕ = take (used - at) P in
    let lp : length P ≡ m = simp (length-take, length-drop) (omega arith) in
    let lq : length P - n ≡ used - at = omega arith in
    let r : R ≡ D ++ E = cc in
    let e1 : m ≡ (used - at) + n = omega arith in
    let e2 : drop (used - at) (take ((used - at) + n) (drop at T)) ≡ take n (drop (used - at) (drop at T)) = drop-take (used - at) n (drop at T) in
    let e3 : drop (used - at) (drop at T) ≡ drop (at + (used - at)) T = drop-drop (used - at) at T in
    let e4 : at + (used - at) ≡ used = omega arith in
    let e5 : D ≡ take n (drop used T) = cc in
    let ld : length (take n (drop used T)) ≡ n = simp (length-take, length-drop) (omega arith) in
    let e6 : E ≡ take (used - at) (drop at T) = take-take (used - at) m (drop at T) (omega arith) in
    let e7 : X ≡ drop (at + m) T = drop-drop m at T in
    let e8 : at + m ≡ used + n = omega arith in
    let e9 : (D ++ E) ++ X ≡ D ++ (E ++ X) = append_assoc D E X in
    cc

-- the room that was made, written over
pub filled : (at used n : ℕ) (T old new : List ℕ) → at ≤ length T → length old ≡ n → length new ≡ n →
    put_mid at n (opened used at old T) new ≡ opened used at new T
filled at used n T old new le lo ln =
    let R : List ℕ = take (used - at) (drop at T) in
    let lt : length (take at T) ≡ at = simp length-take (omega arith) in
    let eo : length old ≡ length new = lo ∙ sym ln in
    let e1 : take at (take at T ++ (old ++ (R ++ drop (used + length old) T))) ≡ take at T = take_at (take at T) _ at lt in
    let e2 : drop at (take at T ++ (old ++ (R ++ drop (used + length old) T))) ≡ old ++ (R ++ drop (used + length old) T) =
    drop_at (take at T) _ at lt in
    let e3 : drop n (old ++ (R ++ drop (used + length old) T)) ≡ R ++ drop (used + length old) T = drop_at old _ n lo in
    cc

pub rotated_out : (at used n m : ℕ) (T R : List ℕ) → at + n ≤ used → used ≤ length T → m ≡ used - at →
    R ≡ drop n (take m (drop at T)) ++ take n (take m (drop at T)) →
    put_mid (used - n) n (put_mid at m T R) (replicate n 0) ≡ closed used at n T
rotated_out at used n m T R le fits em er =
    let Z : List ℕ = replicate n 0 in
    let P : List ℕ = take m (drop at T) in
    let A : List ℕ = take at T in
    let X : List ℕ = drop m (drop at T) in
    let D : List ℕ = drop n P in
    let E : List ℕ = take n P in
    let la : length A ≡ at = simp length-take (omega arith) in
    let lp : length P ≡ m = simp (length-take, length-drop) (omega arith) in
    let ld : length D ≡ m - n = simp length-drop (omega arith) in
    let le1 : length E ≡ n = length-take-le n P (omega arith) in
    let lad : length (A ++ D) ≡ used - n = simp length-append (omega arith) in
    let I1 : A ++ ((D ++ E) ++ X) ≡ (A ++ D) ++ (E ++ X) = simp append_assoc in
    let e1 : take (used - n) ((A ++ D) ++ (E ++ X)) ≡ A ++ D = take_at (A ++ D) (E ++ X) (used - n) lad in
    let e2 : drop (used - n) ((A ++ D) ++ (E ++ X)) ≡ E ++ X = drop_at (A ++ D) (E ++ X) (used - n) lad in
    let e4 : drop n (E ++ X) ≡ X = drop_at E X n le1 in
    let e7 : X ≡ drop (at + m) T = drop-drop m at T in
    let e8 : at + m ≡ used = omega arith in
    let k : ℕ = used - (at + n) in
    let em2 : m ≡ n + k = omega arith in
    let e11 : drop n (take (n + k) (drop at T)) ≡ take k (drop n (drop at T)) = drop-take n k (drop at T) in
    let e12 : drop n (drop at T) ≡ drop (at + n) T = drop-drop n at T in
    let e9 : D ≡ take k (drop (at + n) T) = cc in
    let e10 : (A ++ D) ++ (Z ++ X) ≡ A ++ (D ++ (Z ++ X)) = append_assoc A D (Z ++ X) in
    cc
