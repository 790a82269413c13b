-- The places of set bits: how many there are, places moved up, and those that a test of each bit finds.
use Rattle.std.proofs.Common.{◌≡◌, ℕ, zero, suc, ◌+◌, ◌/◌, ◌^◌, ◌<◌, Bool, eqb, true, false, List, [], ◌∷◌, length, get_or, refl, sym, ap, ◌∙◌, arith}
use lib.Bits.{bit_and, and_mask}
use Rattle.std.specs.List.{filter, range_with_len}
use Rattle.blocks.specs.Bits.{word_bits}
use Rattle.machine.specs.State.{count_set}
use Rattle.bitmap.specs.Bitmap.{set_places}
use Rattle.bitmap.proofs.WordBits.{length_word, get_word}

pub length-places : (bs : List Bool) (k : ℕ) → length (set_places bs k) ≡ count_set bs
unfolding set_places count_set
length-places [] k = refl
length-places (true ∷ bs) k = let i = length-places bs (suc k) in omega arith
length-places (false ∷ bs) k = let i = length-places bs (suc k) in omega arith

-- places from k on are places from 0 on, moved up by k
pub shift_places : (bs : List Bool) (k j n d e : ℕ) → n < count_set bs →
    get_or (set_places bs (k + j)) n d ≡ k + get_or (set_places bs j) n e
unfolding set_places count_set
shift_places [] k j n d e h = absurd (omega arith)
shift_places (true ∷ bs) k j zero d e h = refl
shift_places (true ∷ bs) k j (suc n) d e h =
    ap (λ m. get_or (set_places bs m) n d) (omega arith) ∙ shift_places bs k (suc j) n d e (omega arith)
shift_places (false ∷ bs) k j n d e h =
    ap (λ m. get_or (set_places bs m) n d) (omega arith) ∙ shift_places bs k (suc j) n d e (omega arith)

-- numbers that pass a test, where it reads the bits
pub places_pass : (f : ℕ → Bool) (bs : List Bool) (p : ℕ) → ((k : ℕ) → k < length bs → f (p + k) ≡ get_or bs k false) →
    filter f (range_with_len p (length bs)) ≡ set_places bs p
unfolding set_places
places_pass f [] p e = refl
places_pass f (b ∷ bs) p e =
    let z : p + 0 ≡ p = omega arith in
    let s : p + 1 ≡ suc p = omega arith in
    let first : f p ≡ b = ap f (sym z) ∙ e 0 (omega arith) in
    let i : filter f (range_with_len (suc p) (length bs)) ≡ set_places bs (suc p) =
    places_pass f bs (suc p) (λ k l. ap f (omega arith) ∙ e (suc k) (omega arith)) in
    rw (first, s, i) refl

-- the test of a word's bit
abbrev pub bit_set : ℕ → ℕ → Bool
bit_set w p = eqb (bit_and (w / 2 ^ p) 1) 1

pub word_places : (w : ℕ) → filter (bit_set w) (range_with_len 0 64) ≡ set_places (word_bits w) 0
word_places w =
    let l = length_word w in
    let reads : (k : ℕ) → k < length (word_bits w) → bit_set w (0 + k) ≡ get_or (word_bits w) k false = λ k h.
    let z : 0 + k ≡ k = omega arith in
    rw z (ap (λ x. eqb x 1) (and_mask (w / 2 ^ k) 1) ∙ sym (get_word w k (omega arith))) in
    ap (λ n. filter (bit_set w) (range_with_len 0 n)) (sym l) ∙ places_pass (bit_set w) (word_bits w) 0 reads
