-- Bits packed into words are read back.
use Rattle.std.proofs.Common.{◌≡◌, ℕ, zero, suc, ◌+◌, ◌-◌, ◌*◌, ◌/◌, ◌%◌, ◌^◌, ◌<◌, ◌≤◌, Bool, true, false, List, [], ◌∷◌, ◌++◌, length, take, drop, replicate, sym, refl, ap, ◌∙◌, inl, inr, append_assoc, append-nil, pow-suc, arith, length-drop, length-take, take_all, take_at}
use lib.Seq.{take-append-add}
use Rattle.std.proofs.lemmas.List.{length-take-le, take-append-drop}
use Rattle.std.proofs.lemmas.Bool.{cases_lt}
use Rattle.blocks.specs.Bits.{low_bits, word_bits, bits_of, bits_word, bits_words}
use Rattle.blocks.proofs.Words.{Small}

pub bits_small : (n : ℕ) (bs : List Bool) → length bs ≤ n → bits_word bs < 2 ^ n
unfolding bits_word
bits_small zero [] h = omega arith
bits_small zero (b ∷ bs) h = absurd (omega arith)
bits_small (suc n) [] h = let p = pow-suc 2 n in let i = bits_small n [] (omega arith) in omega arith
bits_small (suc n) (true ∷ bs) h = let p = pow-suc 2 n in let i = bits_small n bs (omega arith) in omega arith
bits_small (suc n) (false ∷ bs) h = let p = pow-suc 2 n in let i = bits_small n bs (omega arith) in omega arith

-- the bits of a number that bits make: those bits, and then none
pub zero_bits : (n : ℕ) → low_bits n 0 ≡ replicate n false
zero_bits zero = refl
zero_bits (suc n) = ap (λ t. false ∷ t) (zero_bits n)

low_back : (n : ℕ) (bs : List Bool) → length bs ≤ n → low_bits n (bits_word bs) ≡ bs ++ replicate (n - length bs) false
unfolding bits_word
low_back n [] h = let z : n - 0 ≡ n = omega arith in rw z (zero_bits n)
low_back zero (b ∷ bs) h = absurd (omega arith)
low_back (suc n) (true ∷ bs) h =
    let a : (1 + 2 * bits_word bs) % 2 ≡ 1 = omega arith in
    let b : (1 + 2 * bits_word bs) / 2 ≡ bits_word bs = omega arith in
    let c : suc n - suc (length bs) ≡ n - length bs = omega arith in
    rw (a, b, c) (ap (λ t. true ∷ t) (low_back n bs (omega arith)))
low_back (suc n) (false ∷ bs) h =
    let a : (0 + 2 * bits_word bs) % 2 ≡ 0 = omega arith in
    let b : (0 + 2 * bits_word bs) / 2 ≡ bits_word bs = omega arith in
    let c : suc n - suc (length bs) ≡ n - length bs = omega arith in
    rw (a, b, c) (ap (λ t. false ∷ t) (low_back n bs (omega arith)))

word_back : (bs : List Bool) → length bs ≤ 64 → word_bits (bits_word bs) ≡ bs ++ replicate (64 - length bs) false
unfolding word_bits
word_back bs h = low_back 64 bs h

-- as many bits of the words as there were
pub bits_back : (n : ℕ) (bs : List Bool) → length bs ≤ 64 * n → take (length bs) (bits_of (bits_words n bs)) ≡ bs
bits_back zero [] h = refl
bits_back zero (b ∷ bs) h = absurd (omega arith)
bits_back (suc n) bs h =
    elim (cases_lt (length bs) 64)
    [ inl lt ↦ last lt | inr ge ↦ full ge (bits_back n (drop 64 bs) (let l = length-drop 64 bs in omega arith)) ]
  where
    P : List Bool
    P = take 64 bs

    R : List Bool
    R = bits_of (bits_words n (drop 64 bs))

    last : length bs < 64 → take (length bs) (word_bits (bits_word (take 64 bs)) ++ R) ≡ bs
    last lt =
        let Z : List Bool = replicate (64 - length bs) false in
        let p : take 64 bs ≡ bs = take_all 64 bs (omega arith) in
        let w : word_bits (bits_word bs) ≡ bs ++ Z = word_back bs (omega arith) in
        let e : word_bits (bits_word (take 64 bs)) ++ R ≡ bs ++ (Z ++ R) =
        ap (λ x. word_bits (bits_word x) ++ R) p ∙ (ap (λ x. x ++ R) w ∙ append_assoc bs Z R) in
        ap (take (length bs)) e ∙ take_at bs (Z ++ R) (length bs) refl

    full : 64 ≤ length bs → take (length (drop 64 bs)) (bits_of (bits_words n (drop 64 bs))) ≡ drop 64 bs →
        take (length bs) (word_bits (bits_word (take 64 bs)) ++ R) ≡ bs
    full ge ih =
        let lp : length P ≡ 64 = length-take-le 64 bs ge in
        let z : 64 - length P ≡ 0 = omega arith in
        let w : word_bits (bits_word P) ≡ P = word_back P (omega arith) ∙ (ap (λ x. P ++ replicate x false) z ∙ append-nil P) in
        let n1 : length bs ≡ length P + (length bs - 64) = omega arith in
        let ld : length (drop 64 bs) ≡ length bs - 64 = length-drop 64 bs in
        ap (λ x. take (length bs) (x ++ R)) w
        ∙ (ap (λ x. take x (P ++ R)) n1
        ∙ (take-append-add P R (length bs - 64)
        ∙ (ap (λ x. P ++ take x R) (sym ld) ∙ (ap (λ x. P ++ x) ih ∙ take-append-drop 64 bs))))

pub small_bits_words : (n : ℕ) (bs : List Bool) → Small (bits_words n bs)
small_bits_words zero bs = tt
small_bits_words (suc n) bs =
    (bits_small 64 (take 64 bs) (simp length-take (omega arith)), small_bits_words n (drop 64 bs))

pub length-bits_words : (n : ℕ) (bs : List Bool) → length (bits_words n bs) ≡ n
length-bits_words zero bs = refl
length-bits_words (suc n) bs = ap suc (length-bits_words n (drop 64 bs))
