-- Words are pinned by their bits: what a map of `bits_words n bs` answers, and which words stand there after a change.
use Rattle.std.proofs.Common.{◌≡◌, ℕ, zero, suc, ◌-◌, ◌*◌, ◌/◌, ◌^◌, ◌<◌, Bool, false, List, [], ◌∷◌, ◌++◌, length, get_or, take, drop, set, replicate, sym, refl, ap, ◌∙◌, inl, inr, pow-suc, arith, length-append}
use lib.ListN.{length-replicate}
use Rattle.std.specs.List.{AllByRecursion}
use Rattle.std.proofs.lemmas.List.{take_all, take_at, drop_at, drop-replicate, get_or_append_left, set-append_left}
use Rattle.blocks.specs.Bits.{low_bits, word_bits, bits_of, bits_word, bits_words}
use Rattle.blocks.specs.Words.{Words}
use Rattle.blocks.proofs.Bits.{bits_back, length-bits_words}
use Rattle.machine.specs.State.{count_set, free, marked, both}
use Rattle.tables.specs.Own.{unmarked}
use Rattle.bitmap.specs.Laws.{WordsPadded, WordsPinned, AnswersExact, ChangesExact, EmptyExact}
use Rattle.bitmap.proofs.WordBits.{digit, length_word}
use Rattle.bitmap.proofs.Maps.{length_bits}
use Rattle.bitmap.proofs.Padded.{count_padded, free_padded, free_below, marked_padded, unmarked_padded, both_padded}

-- a word from its bits
low_word : (n w : ℕ) → w < 2 ^ n → bits_word (low_bits n w) ≡ w
unfolding bits_word
low_word zero w h = omega arith
low_word (suc n) w h =
    let p = pow-suc 2 n in
    let i = low_word n (w / 2) (omega arith) in
    elim (digit w) [ inl z ↦ rw z (omega arith) | inr z ↦ rw z (omega arith) ]

whole_word : (w : ℕ) → w < 2 ^ 64 → bits_word (word_bits w) ≡ w
unfolding word_bits
whole_word w h = low_word 64 w h

whole_words : (ws : List ℕ) → Words ws → bits_words (length ws) (bits_of ws) ≡ ws
whole_words [] f = refl
whole_words (w ∷ ws) f =
    let t : take 64 (word_bits w ++ bits_of ws) ≡ word_bits w = take_at (word_bits w) (bits_of ws) 64 (length_word w) in
    let d : drop 64 (word_bits w ++ bits_of ws) ≡ bits_of ws = drop_at (word_bits w) (bits_of ws) 64 (length_word w) in
    ap (λ x. bits_word x ∷ bits_words (length ws) (drop 64 (word_bits w ++ bits_of ws))) t
    ∙ (ap (λ x. bits_word (word_bits w) ∷ bits_words (length ws) x) d
    ∙ (ap (λ x. x ∷ bits_words (length ws) (bits_of ws)) (whole_word w (f 0))
    ∙ ap (λ x. w ∷ x) (whole_words ws (λ k. f (suc k)))))

-- zeros that follow make no difference to words
word_zeros : (n m : ℕ) → bits_word (take n (replicate m false)) ≡ 0
unfolding bits_word
word_zeros zero m = refl
word_zeros (suc n) zero = refl
word_zeros (suc n) (suc m) = let i = word_zeros n m in omega arith

word_padded : (n m : ℕ) (bs : List Bool) → bits_word (take n (bs ++ replicate m false)) ≡ bits_word (take n bs)
unfolding bits_word
word_padded zero m bs = refl
word_padded (suc n) m [] = word_zeros (suc n) m
word_padded (suc n) m (b ∷ bs) = let i = word_padded n m bs in omega arith

drop_padded : (n m : ℕ) (bs : List Bool) → (j : ℕ) × (drop n (bs ++ replicate m false) ≡ drop n bs ++ replicate j false)
drop_padded zero m bs = (m, refl)
drop_padded (suc n) m [] = (m - suc n, drop-replicate (suc n) m false)
drop_padded (suc n) m (b ∷ bs) = drop_padded n m bs

words_unpadded : (n m : ℕ) (bs : List Bool) → bits_words n (bs ++ replicate m false) ≡ bits_words n bs
words_unpadded zero m bs = refl
words_unpadded (suc n) m bs =
    let d = drop_padded 64 m bs in
    ap (λ x. x ∷ bits_words n (drop 64 (bs ++ replicate m false))) (word_padded 64 m bs)
    ∙ ap (λ x. bits_word (take 64 bs) ∷ x) (ap (bits_words n) d.1 ∙ words_unpadded n d.0 (drop 64 bs))

pub words_pinned : WordsPinned
words_pinned m ws bs f e = sym (whole_words ws f) ∙ (ap (bits_words (length ws)) e ∙ words_unpadded (length ws) m bs)

pub words_padded : WordsPadded
words_padded n bs h =
    let xs = bs ++ replicate (64 * n - length bs) false in
    let l : length xs ≡ 64 * n = length-append bs (replicate (64 * n - length bs) false)
    ∙ (let r = length-replicate (64 * n - length bs) false in omega arith) in
    let b = length_bits (bits_words n xs) in
    let w = length-bits_words n xs in
    ap bits_of (sym (words_unpadded n (64 * n - length bs) bs))
    ∙ (sym (take_all (length xs) (bits_of (bits_words n xs)) (omega arith)) ∙ bits_back n xs (omega arith))

pub empty_exact : EmptyExact
empty_exact zero m = refl
empty_exact (suc n) m =
    ap (λ x. x ∷ bits_words n (drop 64 (replicate m false))) (word_zeros 64 m)
    ∙ ap (λ x. 0 ∷ x) (ap (bits_words n) (drop-replicate 64 m false) ∙ empty_exact n (m - 64))

pub answers_exact : AnswersExact
answers_exact n bs h =
    let m = 64 * n - length bs in
    let e = words_padded n bs h in
    record {
      is_set = λ k l. ap (λ t. get_or t k false) e ∙ get_or_append_left bs (replicate m false) false k l;
      count = ap count_set e ∙ count_padded m bs;
      shared = λ cs l.
          ap (λ t. both (bits_of (bits_words n cs)) t 0) e
          ∙ (ap (λ t. both t (bs ++ replicate m false) 0) (words_padded n cs (omega arith)
          ∙ ap (λ j. cs ++ replicate (64 * n - j) false) l)
          ∙ both_padded m 0 cs bs l);
      taken = λ c l. ap (λ t. free c t 0) e ∙ free_padded c m 0 bs l;
    }

pub changes_exact : ChangesExact
changes_exact n bs ws h l f = record {
  set_or_cleared = λ k b in_range e.
      pinned (set bs k b) (e ∙ (ap (λ t. set t k b) padded ∙ set-append_left bs zs k b in_range));
  all_marked = λ ks in_range e. pinned (marked ks bs) (by_marks ks in_range e);
  all_unmarked = λ ks in_range e.
      pinned (unmarked ks bs) (e ∙ (ap (unmarked ks) padded ∙ unmarked_padded (64 * n - length bs) ks bs in_range));
  lowest_taken = λ c enough e.
      pinned (marked (free c bs 0) bs)
      (by_marks (free c bs 0) (free_below c bs)
      (e ∙ ap (λ t. marked t (bits_of (bits_words n bs))) ((answers_exact n bs h).taken c enough)));
}
  where
    zs : List Bool
    zs = replicate (64 * n - length bs) false

    padded : bits_of (bits_words n bs) ≡ bs ++ zs
    padded = words_padded n bs h

    pinned : (cs : List Bool) → bits_of ws ≡ cs ++ zs → ws ≡ bits_words n cs
    pinned cs e = words_pinned (64 * n - length bs) ws cs f e ∙ ap (λ k. bits_words k cs) l

    by_marks : (ks : List ℕ) → AllByRecursion (λ x. x < length bs) ks → bits_of ws ≡ marked ks (bits_of (bits_words n bs)) →
        bits_of ws ≡ marked ks bs ++ zs
    by_marks ks in_range e = e ∙ (ap (marked ks) padded ∙ marked_padded (64 * n - length bs) ks bs in_range)
