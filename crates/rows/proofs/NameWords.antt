-- Names as words: bytes that fill a word with zeros, and a name's words one after another.
use Rattle.std.proofs.Common.{◌≡◌, ℕ, zero, suc, ◌+◌, ◌-◌, ◌*◌, ◌<◌, ◌≤◌, List, [], ◌∷◌, ◌++◌, length, take, drop, set, replicate, refl, sym, ap, ◌∙◌, append_assoc, inl, inr, min, arith, length-append, drop-drop, take_at, drop_at}
use Rattle.std.specs.Int.{from_le_bytes, w64}
use Rattle.std.proofs.lemmas.List.{append-nil, nil_from_length, drop_all, set_at, take_all, drop-replicate, length-replicate}
use Rattle.std.proofs.lemmas.Bool.{cases_lt}
use Rattle.blocks.specs.Words.{le, chunks}
use Rattle.blocks.proofs.Words.{length-chunks}
use Rattle.rows.proofs.Bytes.{le_step}

le_zeros : (bs : List ℕ) (n : ℕ) → le (bs ++ replicate n 0) ≡ le bs
le_zeros [] zero = refl
le_zeros [] (suc n) = ap (λ x. 0 + 256 * x) (le_zeros [] n)
le_zeros (b ∷ bs) n = ap (λ x. b + 256 * x) (le_zeros bs n)

-- up to eight bytes, with zeros after them, as a word
pub word_read : (bs : List ℕ) (w : ℕ) → length bs ≤ 8 → w ≡ from_le_bytes w64 (bs ++ drop (length bs) (replicate 8 0)) → w ≡ le bs
word_read bs w short e =
    let ps : List ℕ = bs ++ replicate (8 - length bs) 0 in
    let z : drop (length bs) (replicate {A = ℕ} 8 0) ≡ replicate (8 - length bs) 0 = drop-replicate (length bs) 8 0 in
    let whole : take 8 ps ≡ ps = take_all 8 ps (simp (length-append, length-replicate) (omega arith)) in
    let h0 = le_step 7 ps 0 1 refl in
    let h1 = le_step 6 ps 1 2 refl in
    let h2 = le_step 5 ps 2 3 refl in
    let h3 = le_step 4 ps 3 4 refl in
    let h4 = le_step 3 ps 4 5 refl in
    let h5 = le_step 2 ps 5 6 refl in
    let h6 = le_step 1 ps 6 7 refl in
    let h7 = le_step 0 ps 7 8 refl in
    let r : w ≡ from_le_bytes w64 ps = e ∙ ap (λ zs. from_le_bytes w64 (bs ++ zs)) z in
    let q : w ≡ le (take 8 ps) = omega arith in
    q ∙ (ap le whole ∙ le_zeros bs (8 - length bs))

-- n words, then m more
chunks_split : (n m at : ℕ) (bs : List ℕ) → chunks (n + m) at bs ≡ chunks n at bs ++ chunks m (at + 8 * n) bs
chunks_split zero m at bs = let z : at + 8 * 0 ≡ at = omega arith in let y : 0 + m ≡ m = omega arith in rw (z, y) refl
chunks_split (suc n) m at bs =
    let s : at + 8 * suc n ≡ (at + 8) + 8 * n = omega arith in
    let t : suc n + m ≡ suc (n + m) = omega arith in
    rw (s, t) (ap (λ ws. le (take 8 (drop at bs)) ∷ ws) (chunks_split n m (at + 8) bs))

chunks_past : (m at : ℕ) (bs : List ℕ) → length bs ≤ at → chunks m at bs ≡ replicate m 0
chunks_past zero at bs h = refl
chunks_past (suc m) at bs h =
    let d : drop at bs ≡ [] = drop_all at bs h in
    rw d (ap (λ ws. 0 ∷ ws) (chunks_past m (at + 8) bs (omega arith)))

-- the first n of a name's words, and zeros for the others
abbrev pub key_so_far : ℕ → List ℕ → List ℕ
key_so_far n name = length name ∷ (chunks n 0 name ++ replicate (8 - n) 0)

-- the next eight bytes, or what is left, and the rest
pub next_bytes : (name bytes rest : List ℕ) (n : ℕ) → drop (8 * n) name ≡ bytes ++ rest → length bytes ≡ min 8 (length (drop (8 * n) name)) →
    (bytes ≡ take 8 (drop (8 * n) name)) × (rest ≡ drop (8 * (n + 1)) name)
next_bytes name bytes rest n e l =
    let s : 8 * (n + 1) ≡ 8 * n + 8 = omega arith in
    let t : drop 8 (drop (8 * n) name) ≡ drop (8 * n + 8) name = drop-drop 8 (8 * n) name in
    elim (cases_lt (length bytes) 8) [
      | inl less ↦
          let ends : rest ≡ [] = nil_from_length rest (omega (arith, ap length e, length-append bytes rest)) in
          let all : drop (8 * n) name ≡ bytes = e ∙ (ap (λ ws. bytes ++ ws) ends ∙ append-nil bytes) in
          let past : drop 8 bytes ≡ [] = drop_all 8 bytes (omega arith) in
          (sym (ap (take 8) all ∙ take_all 8 bytes (omega arith)), ends ∙ sym (ap (λ k. drop k name) s ∙ (sym t ∙ (ap (drop 8) all ∙ past))))
      | inr more ↦
          let eight : length bytes ≡ 8 = omega arith in
          (sym (ap (take 8) e ∙ take_at bytes rest 8 eight), sym (ap (λ k. drop k name) s ∙ (sym t ∙ (ap (drop 8) e ∙ drop_at bytes rest 8 eight))))
    ]

pub key_more : (name key : List ℕ) (n w : ℕ) → n < 8 → key ≡ key_so_far n name → w ≡ le (take 8 (drop (8 * n) name)) →
    set key (n + 1) w ≡ key_so_far (n + 1) name
key_more name key n w l e ew =
    let z : 8 - n ≡ suc (8 - (n + 1)) = omega arith in
    let s : n + 1 ≡ suc n = omega arith in
    let o : 0 + 8 * n ≡ 8 * n = omega arith in
    let front : List ℕ = chunks n 0 name in
    let back : List ℕ = replicate (8 - (n + 1)) 0 in
    let c : chunks (n + 1) 0 name ≡ front ++ (le (take 8 (drop (8 * n) name)) ∷ []) =
    rw o at (chunks_split n 1 0 name) in
    let t : set (front ++ (0 ∷ back)) n w ≡ front ++ (w ∷ back) = set_at front 0 back w n (length-chunks n 0 name) in
    let a : (front ++ (w ∷ [])) ++ back ≡ front ++ (w ∷ back) = append_assoc front (w ∷ []) back in
    let b : chunks (n + 1) 0 name ++ back ≡ front ++ (w ∷ back) =
    ap (λ ws. ws ++ back) (c ∙ ap (λ v. front ++ (v ∷ [])) (sym ew)) ∙ a in
    ap (λ ks. set ks (n + 1) w) e
    ∙ (ap (λ k. set (length name ∷ (front ++ replicate k 0)) (n + 1) w) z
    ∙ (ap (λ i. set (length name ∷ (front ++ (0 ∷ back))) i w) s ∙ ap (λ ws. length name ∷ ws) (t ∙ sym b)))

pub key_done : (name : List ℕ) (n : ℕ) → n ≤ 8 → length name ≤ 8 * n → key_so_far n name ≡ length name ∷ chunks 8 0 name
key_done name n l h =
    let s : n + (8 - n) ≡ 8 = omega arith in
    let p = chunks_past (8 - n) (0 + 8 * n) name (omega arith) in
    let c = chunks_split n (8 - n) 0 name in
    ap (λ ws. length name ∷ ws) (sym (ap (λ k. chunks k 0 name) (sym s) ∙ (c ∙ ap (λ ws. chunks n 0 name ++ ws) p)))
