-- The bits of one word: read, set, cleared, counted, the lowest clear one, and the bits of two words' `and`.
use Rattle.std.proofs.Common.{◌≡◌, ℕ, zero, suc, ◌+◌, ◌-◌, ◌*◌, ◌/◌, ◌%◌, ◌^◌, ◌<◌, min, true, false, eqb, ◌⊎◌, ◌∷◌, length, get_or, set, replicate, sym, refl, ap, ◌∙◌, inl, inr, pow-suc, add-one, arith, pow_pos}
use native.Mathlib.Nat.{pow-succ', div-div-eq-div-mul}
use lib.Bits.{bit_or, bit_and, or_step, and_step, or_zero_r, and_mask}
use lib.Count.{ones, ones_step, count_trailing_zeros}
use Rattle.blocks.proofs.Bits.{zero_bits}
use Rattle.std.proofs.lemmas.Nat.{mod-pow-add, pow_below}
use Rattle.std.proofs.lemmas.Bool.{cases_eq}
use Rattle.blocks.specs.Bits.{low_bits, word_bits}
use Rattle.machine.specs.State.{count_set, both}
use Rattle.bitmap.specs.Bitmap.{lowest_clear, set_places}

-- a number's half and its lowest digit
cons : (n w h l : ℕ) → w ≡ h * 2 + l → l < 2 → low_bits (suc n) w ≡ (eqb l 1 ∷ low_bits n h)
cons n w h l e b =
    let p : w / 2 ≡ h = omega arith in
    let q : w % 2 ≡ l = omega arith in
    rw (p, q)

-- a digit is 0 or 1
pub digit : (w : ℕ) → (w % 2 ≡ 0) ⊎ (w % 2 ≡ 1)
digit w = elim (cases_eq (w % 2) 0) [ inl e ↦ inl e | inr ne ↦ inr (omega arith) ]

length-low : (n w : ℕ) → length (low_bits n w) ≡ n
length-low zero w = refl
length-low (suc n) w = ap suc (length-low n (w / 2))

get_low : (n k w : ℕ) → k < n → get_or (low_bits n w) k false ≡ eqb (w / 2 ^ k % 2) 1
get_low zero k w h = absurd (omega arith)
get_low (suc n) zero w h = let e : w / 1 ≡ w = omega arith in rw e
get_low (suc n) (suc k) w h =
    let e : w / 2 ^ suc k ≡ w / 2 / 2 ^ k = ap (λ d. w / d) (pow-succ' 2 k) ∙ sym (div-div-eq-div-mul w 2 (2 ^ k)) in
    rw e (get_low n k (w / 2) (omega arith))

or_low : (n k w : ℕ) → k < n → low_bits n (bit_or w (2 ^ k)) ≡ set (low_bits n w) k true
or_low zero k w h = absurd (omega arith)
or_low (suc n) zero w h =
    let e : bit_or w 1 ≡ w / 2 * 2 + 1 = or_step w 1 ∙ rw or_zero_r (omega arith) in
    cons n (bit_or w 1) (w / 2) 1 e (omega arith)
or_low (suc n) (suc k) w h =
    let p = pow-suc 2 k in
    let a : 2 ^ suc k / 2 ≡ 2 ^ k = omega arith in
    let b : 2 ^ suc k % 2 ≡ 0 = omega arith in
    let e : bit_or w (2 ^ suc k) ≡ bit_or (w / 2) (2 ^ k) * 2 + w % 2 = or_step w (2 ^ suc k) ∙ rw (a, b) (omega arith) in
    cons n _ (bit_or (w / 2) (2 ^ k)) (w % 2) e (omega arith) ∙ ap (λ t. eqb (w % 2) 1 ∷ t) (or_low n k (w / 2) (omega arith))

mod_low : (n w : ℕ) → low_bits n (w % 2 ^ n) ≡ low_bits n w
mod_low zero w = refl
mod_low (suc n) w =
    let e : w % 2 ^ suc n ≡ w / 2 % 2 ^ n * 2 + w % 2 = rw (← add-one n) (mod-pow-add w n 1) in
    cons n _ (w / 2 % 2 ^ n) (w % 2) e (omega arith) ∙ ap (λ t. eqb (w % 2) 1 ∷ t) (mod_low n (w / 2))

and_low : (n k w : ℕ) → k < n → low_bits n (bit_and w (2 ^ n - 1 - 2 ^ k)) ≡ set (low_bits n w) k false
and_low zero k w h = absurd (omega arith)
and_low (suc n) zero w h =
    let p = pow-suc 2 n in
    let q = pow_pos n in
    let a : (2 ^ suc n - 1 - 2 ^ 0) / 2 ≡ 2 ^ n - 1 = omega arith in
    let b : (2 ^ suc n - 1 - 2 ^ 0) % 2 ≡ 0 = omega arith in
    let e : bit_and w (2 ^ suc n - 1 - 2 ^ 0) ≡ (w / 2) % 2 ^ n * 2 + 0 = and_step w _ ∙ rw (a, b, and_mask) (omega arith) in
    cons n _ ((w / 2) % 2 ^ n) 0 e (omega arith) ∙ ap (λ t. false ∷ t) (mod_low n (w / 2))
and_low (suc n) (suc k) w h =
    let p = pow-suc 2 n in
    let p' = pow-suc 2 k in
    let a : (2 ^ suc n - 1 - 2 ^ suc k) / 2 ≡ 2 ^ n - 1 - 2 ^ k = omega arith in
    let lt = pow_below k n (omega arith) in
    let b : (2 ^ suc n - 1 - 2 ^ suc k) % 2 ≡ 1 = omega arith in
    let e : bit_and w (2 ^ suc n - 1 - 2 ^ suc k) ≡ bit_and (w / 2) (2 ^ n - 1 - 2 ^ k) * 2 + w % 2 =
    and_step w _ ∙ rw (a, b) (omega arith) in
    cons n _ (bit_and (w / 2) (2 ^ n - 1 - 2 ^ k)) (w % 2) e (omega arith)
    ∙ ap (λ t. eqb (w % 2) 1 ∷ t) (and_low n k (w / 2) (omega arith))

count_low : (n w : ℕ) → w < 2 ^ n → count_set (low_bits n w) ≡ ones w
unfolding ones count_set
count_low zero w h = let e : w ≡ 0 = omega arith in rw e
count_low (suc n) w h =
    let p = pow-suc 2 n in
    let i = count_low n (w / 2) (omega arith) in
    let s = ones_step w in
    elim (digit w) [ inl z ↦ rw z (omega arith) | inr z ↦ rw z (omega arith) ]

lowest_low : (n w : ℕ) → w < 2 ^ n → count_trailing_zeros n (2 ^ n - 1 - w) ≡ lowest_clear (low_bits n w)
unfolding count_trailing_zeros
lowest_low zero w h = refl
lowest_low (suc n) w h =
    let p = pow-suc 2 n in
    let a : (2 ^ suc n - 1 - w) / 2 ≡ 2 ^ n - 1 - w / 2 = omega arith in
    let i = lowest_low n (w / 2) (omega arith) in
    elim (digit w) [
      | inl z ↦ let b : (2 ^ suc n - 1 - w) % 2 ≡ 1 = omega arith in rw (a, b, z)
      | inr z ↦ let b : (2 ^ suc n - 1 - w) % 2 ≡ 0 = omega arith in rw (a, b, z, i) (omega arith)
    ]

not_full : (n w : ℕ) → w < 2 ^ n → (w ≡ 2 ^ n - 1 → ⊥) → lowest_clear (low_bits n w) < n
not_full zero w h ne = absurd (ne (omega arith))
not_full (suc n) w h ne =
    let p = pow-suc 2 n in
    elim (digit w) [
      | inl z ↦ rw z (omega arith)
      | inr z ↦ let i = not_full n (w / 2) (omega arith) (λ e. ne (omega arith)) in rw z (omega arith)
    ]

-- the bits that two words share are those of their `and`
both_low : (n x y k : ℕ) → both (low_bits n x) (low_bits n y) k ≡ set_places (low_bits n (bit_and x y)) k
unfolding both set_places
both_low zero x y k = refl
both_low (suc n) x y k =
    let i = both_low n (x / 2) (y / 2) (suc k) in
    elim (digit x) [
      | inl p ↦ elim (digit y) [
        | inl q ↦ by_digit 0 (rw (p, q)) (omega arith) (rw p i)
        | inr q ↦ by_digit 0 (rw (p, q)) (omega arith) (rw p i)
      ]
      | inr p ↦ elim (digit y) [
        | inl q ↦ by_digit 0 (rw (p, q)) (omega arith) (rw (p, q) i)
        | inr q ↦ by_digit 1 (rw (p, q)) (omega arith) (rw (p, q) (ap (λ t. k ∷ t) i))
      ]
    ]
  where
    A : ℕ
    A = bit_and (x / 2) (y / 2)

    by_digit : (d : ℕ) → min (x % 2) (y % 2) ≡ d → d < 2 →
        both (low_bits (suc n) x) (low_bits (suc n) y) k ≡ set_places (eqb d 1 ∷ low_bits n A) k →
        both (low_bits (suc n) x) (low_bits (suc n) y) k ≡ set_places (low_bits (suc n) (bit_and x y)) k
    by_digit d e l h =
        h ∙ sym (ap (λ t. set_places t k) (cons n (bit_and x y) A d (and_step x y ∙ ap (λ m. A * 2 + m) e) l))

-- all 64
pub length_word : (w : ℕ) → length (word_bits w) ≡ 64
unfolding word_bits
length_word w = length-low 64 w

pub zero_word : word_bits 0 ≡ replicate 64 false
unfolding word_bits
zero_word = zero_bits 64

pub get_word : (w k : ℕ) → k < 64 → get_or (word_bits w) k false ≡ eqb (w / 2 ^ k % 2) 1
unfolding word_bits
get_word w k h = get_low 64 k w h

pub or_word : (w k : ℕ) → k < 64 → word_bits (bit_or w (2 ^ k)) ≡ set (word_bits w) k true
unfolding word_bits
or_word w k h = or_low 64 k w h

pub and_word : (w k : ℕ) → k < 64 → word_bits (bit_and w (2 ^ 64 - 1 - 2 ^ k)) ≡ set (word_bits w) k false
unfolding word_bits
and_word w k h = and_low 64 k w h

pub count_word : (w : ℕ) → w < 2 ^ 64 → count_set (word_bits w) ≡ ones w
unfolding word_bits
count_word w h = count_low 64 w h

pub lowest_word : (w : ℕ) → w < 2 ^ 64 → count_trailing_zeros 64 (2 ^ 64 - 1 - w) ≡ lowest_clear (word_bits w)
unfolding word_bits
lowest_word w h = lowest_low 64 w h

pub not_full_word : (w : ℕ) → w < 2 ^ 64 → (w ≡ 2 ^ 64 - 1 → ⊥) → lowest_clear (word_bits w) < 64
unfolding word_bits
not_full_word w h ne = not_full 64 w h ne

pub both_word : (x y k : ℕ) → both (word_bits x) (word_bits y) k ≡ set_places (word_bits (bit_and x y)) k
unfolding word_bits
both_word x y k = both_low 64 x y k
