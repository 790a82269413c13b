-- Words: lists of them joined, cut and padded stay words; bytes of a word and back; a string of bytes as words and back.
use Rattle.std.proofs.Common.{◌≡◌, ℕ, zero, suc, ◌+◌, ◌-◌, ◌*◌, ◌/◌, ◌%◌, ◌^◌, ◌<◌, ◌≤◌, true, List, [], ◌∷◌, ◌++◌, length, get_or, take, drop, replicate, sym, refl, ap, ◌∙◌, subst, inl, inr, pow-suc, arith, length-append, length-drop, length-take, get_or-drop, take_all, drop-drop, pow-add}
use native.Mathlib.Nat.{div-eq_of_lt}
use lib.ListN.{length-replicate}
use lib.Seq.{take-append-le, take-append-add}
use Rattle.std.specs.List.{flat_map}
use Rattle.std.proofs.lemmas.List.{drop_all, take-append-drop, length-take-le}
use Rattle.std.proofs.lemmas.Bool.{cases_lt, lt-ltb, le-ltb}
use Rattle.blocks.specs.Words.{Words, pad, le, bytes_of, chunks, zeros_after}

-- words of lists
pub words_more : (w : ℕ) (ws : List ℕ) → Words (w ∷ ws) → Words ws
words_more w ws h k = h (suc k)

pub words_none : Words []
words_none k = omega arith

pub words_one : (w : ℕ) (ws : List ℕ) → w < 2 ^ 64 → Words ws → Words (w ∷ ws)
words_one w ws a b zero = a
words_one w ws a b (suc k) = b k

pub words_append : (xs ys : List ℕ) → Words xs → Words ys → Words (xs ++ ys)
words_append [] ys a b k = b k
words_append (x ∷ xs) ys a b zero = a 0
words_append (x ∷ xs) ys a b (suc k) = words_append xs ys (words_more x xs a) b k

pub words_zeros : (n : ℕ) → Words (replicate n 0)
words_zeros zero k = omega arith
words_zeros (suc n) zero = omega arith
words_zeros (suc n) (suc k) = words_zeros n k

pub words_take : (n : ℕ) (xs : List ℕ) → Words xs → Words (take n xs)
words_take zero xs a k = omega arith
words_take (suc n) [] a k = omega arith
words_take (suc n) (x ∷ xs) a zero = a 0
words_take (suc n) (x ∷ xs) a (suc k) = words_take n xs (words_more x xs a) k

pub words-drop : (n : ℕ) (xs : List ℕ) → Words xs → Words (drop n xs)
words-drop n xs a k = let e = get_or-drop n xs k 0 in let h = a (n + k) in omega arith

pub words_pad : (n : ℕ) (xs : List ℕ) → Words xs → Words (pad n xs)
words_pad n xs a = words_append xs (replicate (n - length xs) 0) a (words_zeros (n - length xs))

pub length-pad : (n : ℕ) (xs : List ℕ) → length xs ≤ n → length (pad n xs) ≡ n
length-pad n xs h =
    length-append xs (replicate (n - length xs) 0) ∙ (let l = length-replicate {A = ℕ} (n - length xs) 0 in omega arith)

-- the same said word by word, which is shorter to show of a list that is written out
abbrev pub Small : List ℕ → Type 0
Small [] = Unit {0}
Small (w ∷ ws) = (w < 2 ^ 64) × Small ws

pub small_words : (ws : List ℕ) → Small ws → Words ws
small_words [] h = words_none
small_words (w ∷ ws) h = words_one w ws h.0 (small_words ws h.1)

pub small-append : (xs ys : List ℕ) → Small xs → Small ys → Small (xs ++ ys)
small-append [] ys a b = b
small-append (x ∷ xs) ys a b = (a.0, small-append xs ys a.1 b)

pub small_zeros : (n : ℕ) → Small (replicate n 0)
small_zeros zero = tt
small_zeros (suc n) = (omega arith, small_zeros n)

pub small_pad : (n : ℕ) (xs : List ℕ) → Small xs → Small (pad n xs)
small_pad n xs a = small-append xs (replicate (n - length xs) 0) a (small_zeros (n - length xs))

-- bytes
abbrev pub Bytes : List ℕ → Type 0
Bytes bs = (k : ℕ) → get_or bs k 0 < 256

pub bytes_part : (n : List ℕ) (at : ℕ) → Bytes n → Bytes (take 8 (drop at n))
bytes_part n at b = part 8 (drop at n) (λ k. let e = get_or-drop at n k 0 in let h = b (at + k) in omega arith)
  where
    part : (m : ℕ) (xs : List ℕ) → Bytes xs → Bytes (take m xs)
    part zero xs a k = omega arith
    part (suc m) [] a k = omega arith
    part (suc m) (x ∷ xs) a zero = a 0
    part (suc m) (x ∷ xs) a (suc k) = part m xs (λ j. a (suc j)) k

pub length-bytes : (k w : ℕ) → length (bytes_of k w) ≡ k
length-bytes zero w = refl
length-bytes (suc k) w = ap suc (length-bytes k (w / 256))

pub le_bytes : (k w : ℕ) → w < 256 ^ k → le (bytes_of k w) ≡ w
le_bytes zero w h = omega arith
le_bytes (suc k) w h =
    let p = pow-suc 256 k in
    let ih = le_bytes k (w / 256) (omega arith) in
    omega arith

pub le_small : (k : ℕ) (xs : List ℕ) → Bytes xs → length xs ≤ k → le xs < 256 ^ k
le_small zero [] b l = omega arith
le_small zero (x ∷ xs) b l = absurd (omega arith)
le_small (suc k) [] b l = let p = pow-suc 256 k in let ih = le_small k [] b (omega arith) in omega arith
le_small (suc k) (x ∷ xs) b l =
    let p = pow-suc 256 k in
    let h : x < 256 = b 0 in
    let ih = le_small k xs (λ j. b (suc j)) (omega arith) in
    omega arith

-- the bytes of a word begin with those that it was made of
pub bytes_back : (xs : List ℕ) (k : ℕ) → Bytes xs → length xs ≤ k → take (length xs) (bytes_of k (le xs)) ≡ xs
bytes_back [] k b l = refl
bytes_back (x ∷ xs) zero b l = absurd (omega arith)
bytes_back (x ∷ xs) (suc k) b l =
    let h : x < 256 = b 0 in
    let e1 : (x + 256 * le xs) % 256 ≡ x = omega arith in
    let e2 : (x + 256 * le xs) / 256 ≡ le xs = omega arith in
    let r : take (length xs) (bytes_of k (le xs)) ≡ xs = bytes_back xs k (λ j. b (suc j)) (omega arith) in
    rw (e1, e2) (ap (λ y. x ∷ y) r)

-- chunks
pub length-chunks : (n at : ℕ) (bs : List ℕ) → length (chunks n at bs) ≡ n
length-chunks zero at bs = refl
length-chunks (suc n) at bs = ap suc (length-chunks n (at + 8) bs)

pub chunks_shift : (m at k : ℕ) (bs : List ℕ) → chunks m (at + k) bs ≡ chunks m at (drop k bs)
chunks_shift zero at k bs = refl
chunks_shift (suc m) at k bs =
    let ih = chunks_shift m (at + 8) k bs in
    let e : at + k + 8 ≡ at + 8 + k = omega arith in
    let f : k + at ≡ at + k = omega arith in
    let d : drop at (drop k bs) ≡ drop (k + at) bs = drop-drop at k bs in
    cc

pub small_chunks : (k at : ℕ) (n : List ℕ) → Bytes n → Small (chunks k at n)
small_chunks zero at n b = tt
small_chunks (suc k) at n b =
    let l : length (take 8 (drop at n)) ≤ 8 = simp length-take (omega arith) in
    (le_small 8 (take 8 (drop at n)) (bytes_part n at b) l, small_chunks k (at + 8) n b)

join_full : (B P J R D : List ℕ) (m l : ℕ) → B ≡ P → length P ≡ 8 → l ≡ 8 + m → take m J ≡ R → P ++ R ≡ D → take l (B ++ J) ≡ D
join_full B P J R D m l e lp el r d =
    let t : take (length P + m) (P ++ J) ≡ P ++ take m J = take-append-add P J m in
    let n : l ≡ length P + m = omega arith in
    cc

join_part : (B P J D : List ℕ) (l : ℕ) → take l B ≡ P → l ≤ length B → P ≡ D → take l (B ++ J) ≡ D
join_part B P J D l e le0 d = take-append-le l B J le0 ∙ (e ∙ d)

-- the bytes of a string's words begin with the string
pub chunks_back : (k at : ℕ) (n : List ℕ) → Bytes n → length n ≤ at + 8 * k →
    take (length n - at) (flat_map (bytes_of 8) (chunks k at n)) ≡ drop at n
chunks_back zero at n b l = let z : length n - at ≡ 0 = omega arith in rw z (sym (drop_all at n (omega arith)))
chunks_back (suc k) at n b l =
    elim (cases_lt (at + 8) (length n)) [ inl h ↦ full h (chunks_back k (at + 8) n b (omega arith)) | inr h ↦ last h ]
  where
    P : List ℕ
    P = take 8 (drop at n)

    J : List ℕ
    J = flat_map (bytes_of 8) (chunks k (at + 8) n)

    back : take (length P) (bytes_of 8 (le P)) ≡ P
    back = bytes_back P 8 (bytes_part n at b) (simp length-take (omega arith))

    full : at + 8 < length n → take (length n - (at + 8)) J ≡ drop (at + 8) n → take (length n - at) (bytes_of 8 (le P) ++ J) ≡ drop at n
    full h r =
        let lp : length P ≡ 8 = length-take-le 8 (drop at n) (simp length-drop (omega arith)) in
        let whole : take (length P) (bytes_of 8 (le P)) ≡ bytes_of 8 (le P) =
        take_all (length P) (bytes_of 8 (le P)) (let q = length-bytes 8 (le P) in omega arith) in
        join_full (bytes_of 8 (le P)) P J (drop (at + 8) n) (drop at n) (length n - (at + 8)) (length n - at)
        (sym whole ∙ back) lp (omega arith) r
        (ap (λ x. P ++ x) (sym (drop-drop 8 at n)) ∙ take-append-drop 8 (drop at n))

    last : length n ≤ at + 8 → take (length n - at) (bytes_of 8 (le P) ++ J) ≡ drop at n
    last h =
        let all : P ≡ drop at n = take_all 8 (drop at n) (simp length-drop (omega arith)) in
        let lp : length P ≡ length n - at = ap length all ∙ length-drop at n in
        join_part (bytes_of 8 (le P)) P J (drop at n) (length n - at) (ap (λ x. take x (bytes_of 8 (le P))) (sym lp) ∙ back)
        (let q = length-bytes 8 (le P) in omega arith) all

pub name_back : (k : ℕ) (n : List ℕ) → Bytes n → length n ≤ 8 * k → take (length n) (flat_map (bytes_of 8) (chunks k 0 n)) ≡ n
name_back k n b l =
    let z : length n - 0 ≡ length n = omega arith in
    ap (λ x. take x (flat_map (bytes_of 8) (chunks k 0 n))) (sym z) ∙ chunks_back k 0 n b (omega arith)

-- the words of a string have zeros after it
le_below : (xs : List ℕ) → Bytes xs → le xs < 2 ^ (8 * length xs)
le_below [] b = omega arith
le_below (x ∷ xs) b =
    let e : 8 * suc (length xs) ≡ 8 + 8 * length xs = omega arith in
    let p : 2 ^ (8 * suc (length xs)) ≡ 256 * 2 ^ (8 * length xs) = ap (λ i. 2 ^ i) e ∙ pow-add 2 8 (8 * length xs) in
    let h : x < 256 = b 0 in
    let ih = le_below xs (λ k. b (suc k)) in
    omega arith

pub chunks_zeros : (k at : ℕ) (n : List ℕ) → Bytes n → zeros_after (length n - at) (chunks k at n) ≡ true
chunks_zeros zero at n b = refl
chunks_zeros (suc k) at n b =
    let P : List ℕ = take 8 (drop at n) in
    let ih = chunks_zeros k (at + 8) n b in
    elim (cases_lt (length n - at) 8) [
      | inl h ↦
          let u = lt-ltb (length n - at) 8 h in
          let all : P ≡ drop at n = take_all 8 (drop at n) (simp length-drop (omega arith)) in
          let lp : length P ≡ length n - at = ap length all ∙ length-drop at n in
          let lt : le P < 2 ^ (8 * (length n - at)) = subst (λ i. le P < 2 ^ (8 * i)) lp (le_below P (bytes_part n at b)) in
          let d : le P / 2 ^ (8 * (length n - at)) ≡ 0 = div-eq_of_lt lt in
          let z : length n - (at + 8) ≡ 0 = omega arith in
          rw (u, d) (ap (λ i. zeros_after i (chunks k (at + 8) n)) (sym z) ∙ ih)
      | inr h ↦
          let u = le-ltb (length n - at) 8 h in
          let z : length n - at - 8 ≡ length n - (at + 8) = omega arith in
          rw (u, z) ih
    ]
