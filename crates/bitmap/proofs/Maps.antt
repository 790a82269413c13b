-- The bits of a list of words: how many there are, one of them read or written, and the bits after some words.
use Rattle.std.proofs.Common.{◌≡◌, ℕ, zero, suc, ◌+◌, ◌-◌, ◌*◌, ◌/◌, ◌%◌, ◌^◌, ◌<◌, Bool, true, false, eqb, List, [], ◌∷◌, ◌++◌, length, get_or, drop, set, replicate, sym, refl, ap, ◌∙◌, arith, length-append}
use lib.Bits.{bit_or, bit_and, and_mask}
use Rattle.std.proofs.lemmas.List.{get_or_append_left, get_or-append_right, set-append_left, set-append_right, drop_at, drop-drop, replicate-append-replicate}
use Rattle.std.proofs.lemmas.Nat.{one_shl}
use Rattle.blocks.specs.Bits.{word_bits, bits_of}
use Rattle.bitmap.proofs.WordBits.{length_word, get_word, or_word, and_word, zero_word}

pub length_bits : (ws : List ℕ) → length (bits_of ws) ≡ 64 * length ws
length_bits [] = refl
length_bits (w ∷ ws) =
    let l = length_word w in
    let i = length_bits ws in
    let a = length-append (word_bits w) (bits_of ws) in
    omega arith

-- after q words
pub drop_bits : (q : ℕ) (ws : List ℕ) → drop (64 * q) (bits_of ws) ≡ bits_of (drop q ws)
drop_bits zero ws = refl
drop_bits (suc q) [] = let e : 64 * suc q ≡ suc (64 * q + 63) = omega arith in rw e
drop_bits (suc q) (w ∷ ws) =
    let e : 64 * suc q ≡ 64 + 64 * q = omega arith in
    ap (λ n. drop n (word_bits w ++ bits_of ws)) e
    ∙ (sym (drop-drop (64 * q) 64 (word_bits w ++ bits_of ws))
    ∙ (ap (drop (64 * q)) (drop_at (word_bits w) (bits_of ws) 64 (length_word w)) ∙ drop_bits q ws))

-- no bits
pub zero_bits : (n : ℕ) → bits_of (replicate n 0) ≡ replicate (64 * n) false
zero_bits zero = refl
zero_bits (suc n) =
    let e : 64 + 64 * n ≡ 64 * suc n = omega arith in
    ap (λ t. t ++ bits_of (replicate n 0)) zero_word
    ∙ (ap (λ t. replicate 64 false ++ t) (zero_bits n)
    ∙ (replicate-append-replicate 64 (64 * n) false ∙ ap (λ m. replicate m false) e))

-- bit r of word q
get_bits : (ws : List ℕ) (q r : ℕ) → q < length ws → r < 64 →
    get_or (bits_of ws) (64 * q + r) false ≡ get_or (word_bits (get_or ws q 0)) r false
get_bits [] q r h k = absurd (omega arith)
get_bits (w ∷ ws) zero r h k =
    let l = length_word w in
    let lt : r < length (word_bits w) = omega arith in
    let z : 64 * 0 + r ≡ r = omega arith in
    rw (z, get_or_append_left (word_bits w) (bits_of ws) false r lt)
get_bits (w ∷ ws) (suc q) r h k =
    get_or-append_right (word_bits w) (bits_of ws) 64 (64 * suc q + r) false (length_word w) (omega arith)
    ∙ ap (λ i. get_or (bits_of ws) i false) (omega arith)
    ∙ get_bits ws q r (omega arith) k

set_bits : (ws : List ℕ) (q r v : ℕ) (b : Bool) → q < length ws → r < 64 →
    word_bits v ≡ set (word_bits (get_or ws q 0)) r b → bits_of (set ws q v) ≡ set (bits_of ws) (64 * q + r) b
set_bits [] q r v b h k e = absurd (omega arith)
set_bits (w ∷ ws) zero r v b h k e =
    let l = length_word w in
    ap (λ t. t ++ bits_of ws) e
    ∙ sym (set-append_left (word_bits w) (bits_of ws) r b (omega arith))
    ∙ ap (λ i. set (word_bits w ++ bits_of ws) i b) (omega arith)
set_bits (w ∷ ws) (suc q) r v b h k e =
    ap (λ t. word_bits w ++ t) (set_bits ws q r v b (omega arith) k e)
    ∙ ap (λ i. word_bits w ++ set (bits_of ws) i b) (omega arith)
    ∙ sym (set-append_right (word_bits w) (bits_of ws) 64 (64 * suc q + r) b (length_word w) (omega arith))

-- what the code computes
module _ (ws : List ℕ) (k : ℕ) (h : k < 64 * length ws) where
  whole : 64 * (k / 64) + k % 64 ≡ k
  whole = omega arith

  low : k % 64 < 64
  low = omega arith

  pub read_at : eqb (bit_and (get_or ws (k / 64) 0 / 2 ^ (k % 64)) 1) 1 ≡ get_or (bits_of ws) k false
  read_at =
      ap (λ x. eqb x 1) (and_mask (get_or ws (k / 64) 0 / 2 ^ (k % 64)) 1)
      ∙ sym (get_word (get_or ws (k / 64) 0) (k % 64) low)
      ∙ sym (get_bits ws (k / 64) (k % 64) (omega arith) low)
      ∙ ap (λ i. get_or (bits_of ws) i false) whole

  pub set_at : bits_of (set ws (k / 64) (bit_or (get_or ws (k / 64) 0) ((1 * 2 ^ (k % 64)) % 2 ^ 64))) ≡ set (bits_of ws) k true
  set_at =
      let w = get_or ws (k / 64) 0 in
      set_bits ws (k / 64) (k % 64) _ true (omega arith) low
      (ap (λ x. word_bits (bit_or w x)) (one_shl (k % 64) 64 low) ∙ or_word w (k % 64) low)
      ∙ ap (λ i. set (bits_of ws) i true) whole

  pub clear_at :
      bits_of (set ws (k / 64) (bit_and (get_or ws (k / 64) 0) (2 ^ 64 - 1 - (1 * 2 ^ (k % 64)) % 2 ^ 64))) ≡
      set (bits_of ws) k false
  clear_at =
      let w = get_or ws (k / 64) 0 in
      set_bits ws (k / 64) (k % 64) _ false (omega arith) low
      (ap (λ x. word_bits (bit_and w (2 ^ 64 - 1 - x))) (one_shl (k % 64) 64 low) ∙ and_word w (k % 64) low)
      ∙ ap (λ i. set (bits_of ws) i false) whole
