-- Bytes and words: a byte more of a word that is read, a word's bytes as code has them, and a word more of those written.
use Rattle.std.proofs.Common.{◌≡◌, ℕ, zero, suc, ◌+◌, ◌-◌, ◌*◌, ◌/◌, ◌%◌, ◌<◌, ◌≤◌, List, [], ◌∷◌, ◌++◌, length, get_or, take, drop, drop-drop, replicate, sym, refl, ap, ◌∙◌, inl, inr, arith}
use borrow.Rule.Slice.PartMut.{put_mid}
use Rattle.std.specs.List.{flat_map}
use Rattle.std.proofs.lemmas.List.{append-nil, drop_more, drop_all, drop-replicate, get_or_past, take_more}
use Rattle.std.proofs.lemmas.Slice.{take-put_mid, drop-put_mid}
use Rattle.std.proofs.lemmas.Bool.{cases_lt}
use Rattle.blocks.specs.Words.{le, bytes_of}
use Rattle.blocks.proofs.Joins.{joined_append}
use Rattle.blocks.proofs.Words.{length-bytes}

-- one byte more of a word, where there is none a zero
pub le_step : (k : ℕ) (bs : List ℕ) (at next : ℕ) → at + 1 ≡ next →
    le (take (suc k) (drop at bs)) ≡ get_or bs at 0 + 256 * le (take k (drop next bs))
le_step k bs at next e = elim (cases_lt at (length bs)) [ inl h ↦ within h | inr h ↦ past h ]
  where
    none : (k : ℕ) → le (take (suc k) []) ≡ 0 + 256 * le (take k [])
    none zero = refl
    none (suc k) = refl

    within : at < length bs → le (take (suc k) (drop at bs)) ≡ get_or bs at 0 + 256 * le (take k (drop next bs))
    within h = rw (drop_more bs at 0 h) (rw e refl)

    past : length bs ≤ at → le (take (suc k) (drop at bs)) ≡ get_or bs at 0 + 256 * le (take k (drop next bs))
    past h =
        let e1 : drop at bs ≡ [] = drop_all at bs h in
        let e2 : drop next bs ≡ [] = drop_all next bs (omega arith) in
        let e3 : get_or bs at 0 ≡ 0 = get_or_past bs at 0 h in
        rw (e1, e2, e3) (none k)

-- the bytes of a word by one division each
abbrev pub eight_bytes : ℕ → List ℕ
eight_bytes w =
    (w % 256) ∷ (w / 256 % 256) ∷ (w / 65536 % 256) ∷ (w / 16777216 % 256) ∷ (w / 4294967296 % 256)
    ∷ (w / 1099511627776 % 256) ∷ (w / 281474976710656 % 256) ∷ (w / 72057594037927936 % 256) ∷ []

word_bytes : (w : ℕ) → eight_bytes w ≡ bytes_of 8 w
word_bytes w =
    let e2 : w / 65536 ≡ w / 256 / 256 = omega arith in
    let e3 : w / 16777216 ≡ w / 256 / 256 / 256 = omega arith in
    let e4 : w / 4294967296 ≡ w / 256 / 256 / 256 / 256 = omega arith in
    let e5 : w / 1099511627776 ≡ w / 256 / 256 / 256 / 256 / 256 = omega arith in
    let e6 : w / 281474976710656 ≡ w / 256 / 256 / 256 / 256 / 256 / 256 = omega arith in
    let e7 : w / 72057594037927936 ≡ w / 256 / 256 / 256 / 256 / 256 / 256 / 256 = omega arith in
    cc

-- the k-th of some words written as bytes after those before it
pub bytes_more : (ws bs new : List ℕ) (k : ℕ) → k < length ws → 8 * k ≤ length bs →
    take (8 * k) bs ≡ flat_map (bytes_of 8) (take k ws) → new ≡ eight_bytes (get_or ws k 0) →
    take (8 * (k + 1)) (put_mid (8 * k) (8 * k + 8 - 8 * k) bs new) ≡ flat_map (bytes_of 8) (take (k + 1) ws)
bytes_more ws bs new k l room e en =
    let w : ℕ = get_or ws k 0 in
    let en2 : new ≡ bytes_of 8 w = en ∙ word_bytes w in
    let ln : length new ≡ 8 = ap length en2 ∙ length-bytes 8 w in
    let a : take (8 * (k + 1)) (put_mid (8 * k) (8 * k + 8 - 8 * k) bs new) ≡ take (8 * k) bs ++ new =
    take-put_mid (8 * k) (8 * k + 8 - 8 * k) bs new (8 * (k + 1)) (omega arith) room in
    let b : take (k + 1) ws ≡ take k ws ++ (w ∷ []) = take_more ws k 0 l in
    let d : flat_map (bytes_of 8) (take k ws ++ (w ∷ [])) ≡ flat_map (bytes_of 8) (take k ws) ++ (bytes_of 8 w ++ []) =
    joined_append (bytes_of 8) (take k ws) (w ∷ []) in
    let f : bytes_of 8 w ++ [] ≡ bytes_of 8 w = append-nil (bytes_of 8 w) in
    cc

-- and zeros still stand after them
pub zeros_left : (bs new : List ℕ) (k : ℕ) → 8 * k + 8 ≤ length bs → length new ≡ 8 → drop (8 * k) bs ≡ replicate (64 - 8 * k) 0 →
    drop (8 * (k + 1)) (put_mid (8 * k) (8 * k + 8 - 8 * k) bs new) ≡ replicate (64 - 8 * (k + 1)) 0
zeros_left bs new k room ln e =
    let at : 8 * k + 8 ≡ 8 * (k + 1) = omega arith in
    let n : (64 - 8 * k) - 8 ≡ 64 - 8 * (k + 1) = omega arith in
    drop-put_mid (8 * k) (8 * k + 8 - 8 * k) bs new (8 * (k + 1)) (omega arith) (omega arith) (omega arith)
    ∙ (ap (λ i. drop i bs) (sym at)
    ∙ (sym (drop-drop 8 (8 * k) bs)
    ∙ (ap (drop 8) e ∙ (drop-replicate 8 (64 - 8 * k) 0 ∙ ap (λ i. replicate i 0) n))))
