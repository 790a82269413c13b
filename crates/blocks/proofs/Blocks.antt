-- What is written of a table as blocks is read back, whatever follows it; its k-th block; how long the blocks are.
use Rattle.std.proofs.Common.{◌≡◌, ℕ, zero, suc, ◌+◌, ◌-◌, ◌*◌, ◌/◌, ◌<◌, ◌≤◌, min, List, [], ◌∷◌, ◌++◌, length, get_or, take, drop, replicate, sym, refl, ap, ◌∙◌, arith, length-append, length-drop, length-take, drop-drop, take_at}
use lib.ListN.{length-replicate}
use Rattle.std.specs.List.{flat_map}
use Rattle.std.proofs.lemmas.List.{take-append-drop}
use Rattle.blocks.specs.Words.{Words, pad, le, bytes_of, chunks}
use Rattle.blocks.specs.Blocks.{block_bytes, blocks_count, blocks_of, table_blocks, loaded}
use Rattle.blocks.proofs.Joins.{length_joined}
use Rattle.blocks.proofs.Words.{Bytes, words_more, words_take, words-drop, words_pad, length-pad, length-bytes, le_bytes, chunks_shift}

pub chunks_joined : (m : ℕ) (ws : List ℕ) → Words ws → m ≤ length ws → chunks m 0 (flat_map (bytes_of 8) ws) ≡ take m ws
chunks_joined zero ws h l = refl
chunks_joined (suc m) [] h l = absurd (omega arith)
chunks_joined (suc m) (w ∷ ws) h l =
    let B : List ℕ = bytes_of 8 w ++ flat_map (bytes_of 8) ws in
    let one : le (bytes_of 8 w) ≡ w = le_bytes 8 w (h 0) in
    let s : chunks m (0 + 8) B ≡ chunks m 0 (flat_map (bytes_of 8) ws) = chunks_shift m 0 8 B in
    let ih = chunks_joined m ws (words_more w ws h) (omega arith) in
    cc

pub none_loaded : (bs : List (List ℕ)) → loaded 0 bs ≡ []
none_loaded [] = refl
none_loaded (b ∷ bs) = none_loaded bs

pub loads_back : (n : ℕ) (ws : List ℕ) (rest : List (List ℕ)) → Words ws → length ws ≤ 512 * n →
    loaded (length ws) (blocks_of n ws ++ rest) ≡ ws
loads_back zero [] rest h l = none_loaded rest
loads_back zero (w ∷ ws) rest h l = absurd (omega arith)
loads_back (suc n) ws rest h l =
    let P : List ℕ = take 512 ws in
    let D : List ℕ = drop 512 ws in
    let Q : List ℕ = pad 512 P in
    let m : ℕ = min (length ws) 512 in
    let lp : length P ≡ m = length-take 512 ws ∙ omega arith in
    let lq : m ≤ length Q = simp (length-append, length-replicate) (omega arith) in
    let a : chunks m 0 (flat_map (bytes_of 8) Q) ≡ take m Q = chunks_joined m Q (words_pad 512 P (words_take 512 ws h)) lq in
    let b : take m Q ≡ P = take_at P (replicate (512 - length P) 0) m lp in
    let ld : length D ≡ length ws - 512 = length-drop 512 ws in
    let ih : loaded (length D) (blocks_of n D ++ rest) ≡ D = loads_back n D rest (words-drop 512 ws h) (omega arith) in
    let i : loaded (length ws - 512) (blocks_of n D ++ rest) ≡ D = ap (λ x. loaded x (blocks_of n D ++ rest)) (sym ld) ∙ ih in
    let t : P ++ D ≡ ws = take-append-drop 512 ws in
    cc

pub table_back : (ws : List ℕ) (rest : List (List ℕ)) → Words ws → loaded (length ws) (table_blocks ws ++ rest) ≡ ws
table_back ws rest h = loads_back (blocks_count (length ws)) ws rest h (omega arith)

-- one block of words, read back
pub block_back : (ws : List ℕ) → Words ws → length ws ≤ 512 → chunks 512 0 (flat_map (bytes_of 8) (pad 512 ws)) ≡ pad 512 ws
block_back ws h l =
    let e = length-pad 512 ws l in
    chunks_joined 512 (pad 512 ws) (words_pad 512 ws h) (omega arith) ∙ all 512 (pad 512 ws) (omega arith)
  where
    all : (n : ℕ) (xs : List ℕ) → length xs ≤ n → take n xs ≡ xs
    all zero [] p = refl
    all zero (x ∷ xs) p = absurd (omega arith)
    all (suc n) [] p = refl
    all (suc n) (x ∷ xs) p = ap (λ ys. x ∷ ys) (all n xs (omega arith))

-- the k-th of a table's blocks
pub dumped : (n k : ℕ) (ws : List ℕ) → k < n → get_or (blocks_of n ws) k [] ≡ block_bytes k ws
dumped zero k ws h = absurd (omega arith)
dumped (suc n) zero ws h = refl
dumped (suc n) (suc k) ws h =
    let e : 512 + 512 * k ≡ 512 * suc k = omega arith in
    let d : drop (512 * k) (drop 512 ws) ≡ drop (512 * suc k) ws = drop-drop (512 * k) 512 ws ∙ ap (λ x. drop x ws) e in
    dumped n k (drop 512 ws) (omega arith) ∙ ap (λ x. flat_map (bytes_of 8) (pad 512 (take 512 x))) d

pub length_blocks : (n : ℕ) (ws : List ℕ) → length (blocks_of n ws) ≡ n
length_blocks zero ws = refl
length_blocks (suc n) ws = ap suc (length_blocks n (drop 512 ws))

-- blocks are 4,096 bytes
pub length-block : (ws : List ℕ) → length ws ≤ 512 → length (flat_map (bytes_of 8) (pad 512 ws)) ≡ 4096
length-block ws l =
    let a = length_joined 8 (bytes_of 8) (length-bytes 8) (pad 512 ws) in
    let b = length-pad 512 ws l in
    omega arith

bytes_word : (k w : ℕ) (ys : List ℕ) → Bytes ys → Bytes (bytes_of k w ++ ys)
bytes_word zero w ys b j = b j
bytes_word (suc k) w ys b zero = omega arith
bytes_word (suc k) w ys b (suc j) = bytes_word k (w / 256) ys b j

pub bytes_joined : (ws : List ℕ) → Bytes (flat_map (bytes_of 8) ws)
bytes_joined [] k = omega arith
bytes_joined (w ∷ ws) k = bytes_word 8 w (flat_map (bytes_of 8) ws) (bytes_joined ws) k
