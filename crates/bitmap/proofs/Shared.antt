-- Bits that are set in both of two maps: word by word they are those of the words' `and`.
use Rattle.std.proofs.Common.{◌≡◌, ℕ, suc, ◌+◌, ◌-◌, ◌*◌, ◌^◌, ◌<◌, ◌≤◌, Bool, true, false, List, [], ◌∷◌, ◌++◌, length, get_or, drop, Some, sym, ap, ◌∙◌, arith, length-append}
use lib.Bits.{bit_and, and_lt}
use lib.Count.{ones}
use Rattle.std.specs.List.{slice_get}
use Rattle.std.specs.Option.{option_map}
use Rattle.std.proofs.lemmas.List.{drop_more, drop_all}
use Rattle.std.proofs.lemmas.Nat.{ones-le}
use Rattle.std.proofs.lemmas.Option.{slice_get-get_or}
use Rattle.blocks.specs.Bits.{word_bits, bits_of}
use Rattle.machine.specs.State.{both}
use Rattle.bitmap.specs.Bitmap.{set_places}
use Rattle.bitmap.proofs.WordBits.{length_word, both_word, count_word}
use Rattle.bitmap.proofs.Lists.{nth_left, nth_right}
use Rattle.bitmap.proofs.Places.{length-places, shift_places}

pub both-append : (us bs xs ys : List Bool) (k : ℕ) → length us ≡ length bs →
    both (us ++ xs) (bs ++ ys) k ≡ both us bs k ++ both xs ys (k + length us)
unfolding both
both-append [] [] xs ys k h = ap (both xs ys) (omega arith)
both-append [] (b ∷ bs) xs ys k h = absurd (omega arith)
both-append (a ∷ us) [] xs ys k h = absurd (omega arith)
both-append (true ∷ us) (true ∷ bs) xs ys k h =
    ap (λ t. k ∷ t) (both-append us bs xs ys (suc k) (omega arith)
    ∙ ap (λ j. both us bs (suc k) ++ both xs ys j) (omega arith))
both-append (true ∷ us) (false ∷ bs) xs ys k h =
    both-append us bs xs ys (suc k) (omega arith) ∙ ap (λ j. both us bs (suc k) ++ both xs ys j) (omega arith)
both-append (false ∷ us) (b ∷ bs) xs ys k h =
    both-append us bs xs ys (suc k) (omega arith) ∙ ap (λ j. both us bs (suc k) ++ both xs ys j) (omega arith)

-- what is shared from word i on
abbrev pub shared_from : List ℕ → List ℕ → ℕ → List ℕ
shared_from us bs i = both (bits_of (drop i us)) (bits_of (drop i bs)) (64 * i)

-- and in word i
abbrev shared_in : List ℕ → List ℕ → ℕ → List ℕ
shared_in us bs i = set_places (word_bits (bit_and (get_or us i 0) (get_or bs i 0))) (64 * i)

module _ (us bs : List ℕ) (i : ℕ) (h : i < length us) (alike : length bs ≡ length us) where
  abbrev x : ℕ
  x = get_or us i 0

  abbrev y : ℕ
  y = get_or bs i 0

  shared_more : shared_from us bs i ≡ shared_in us bs i ++ shared_from us bs (i + 1)
  shared_more =
      let p : drop i us ≡ (x ∷ drop (i + 1) us) = drop_more us i 0 h in
      let q : drop i bs ≡ (y ∷ drop (i + 1) bs) = drop_more bs i 0 (omega arith) in
      let l : 64 * i + length (word_bits x) ≡ 64 * (i + 1) = (let n = length_word x in omega arith) in
      ap (λ t. both (bits_of t) (bits_of (drop i bs)) (64 * i)) p
      ∙ (ap (λ t. both (word_bits x ++ bits_of (drop (i + 1) us)) (bits_of t) (64 * i)) q
      ∙ (both-append (word_bits x) (word_bits y) (bits_of (drop (i + 1) us)) (bits_of (drop (i + 1) bs)) (64 * i)
      (length_word x ∙ sym (length_word y))
      ∙ (ap (λ t. t ++ both (bits_of (drop (i + 1) us)) (bits_of (drop (i + 1) bs)) (64 * i + length (word_bits x)))
      (both_word x y (64 * i))
      ∙ ap (λ j. shared_in us bs i ++ both (bits_of (drop (i + 1) us)) (bits_of (drop (i + 1) bs)) j) l)))

  module _ (fx : x < 2 ^ 64) (fy : y < 2 ^ 64) where
    fits : bit_and x y < 2 ^ 64
    fits = and_lt 64 x y fx fy

    pub few_in : ones (bit_and x y) ≤ 64
    few_in = ones-le 64 (bit_and x y) fits

    length_in : length (shared_in us bs i) ≡ ones (bit_and x y)
    length_in = length-places (word_bits (bit_and x y)) (64 * i) ∙ count_word (bit_and x y) fits

    pub length_from : length (shared_from us bs i) ≡ ones (bit_and x y) + length (shared_from us bs (i + 1))
    length_from =
        ap length shared_more
        ∙ (length-append (shared_in us bs i) (shared_from us bs (i + 1))
        ∙ ap (λ n. n + length (shared_from us bs (i + 1))) length_in)

    -- the n-th from word i on: in this word, or in a later one
    nth_in : (n : ℕ) → n < ones (bit_and x y) →
        slice_get (shared_from us bs i) n ≡ option_map (λ p. 64 * i + p) (slice_get (set_places (word_bits (bit_and x y)) 0) n)
    nth_in n lt =
        let c = count_word (bit_and x y) fits in
        let l = length_in in
        let m = length-places (word_bits (bit_and x y)) 0 in
        let z : 64 * i + 0 ≡ 64 * i = omega arith in
        ap (λ t. slice_get t n) shared_more
        ∙ (nth_left (shared_in us bs i) (shared_from us bs (i + 1)) n (omega arith)
        ∙ (slice_get-get_or (shared_in us bs i) n 64 (omega arith)
        ∙ (ap Some (ap (λ j. get_or (set_places (word_bits (bit_and x y)) j) n 64) (sym z)
        ∙ shift_places (word_bits (bit_and x y)) (64 * i) 0 n 64 64 (omega arith))
        ∙ ap (option_map (λ p. 64 * i + p))
        (sym (slice_get-get_or (set_places (word_bits (bit_and x y)) 0) n 64 (omega arith))))))

    nth_past : (n : ℕ) → ones (bit_and x y) ≤ n →
        slice_get (shared_from us bs i) n ≡ slice_get (shared_from us bs (i + 1)) (n - ones (bit_and x y))
    nth_past n le =
        let l = length_in in
        ap (λ t. slice_get t n) shared_more
        ∙ (nth_right (shared_in us bs i) (shared_from us bs (i + 1)) n (omega arith)
        ∙ ap (λ m. slice_get (shared_from us bs (i + 1)) (n - m)) l)

-- the same for the words that a turn of a loop has
module _ (us bs : List ℕ) (i x y : ℕ) (h : i < length us) (alike : length bs ≡ length us) (ex : get_or us i 0 ≡ x)
    (ey : get_or bs i 0 ≡ y) (fx : x < 2 ^ 64) (fy : y < 2 ^ 64) (n : ℕ) where
  pub nth_here : n < ones (bit_and x y) →
      option_map (λ p. 64 * i + p) (slice_get (set_places (word_bits (bit_and x y)) 0) n) ≡ slice_get (shared_from us bs i) n
  nth_here l =
      rw (← ex, ← ey)
      (sym (nth_in us bs i h alike (rw ex fx) (rw ey fy) n (rw (ex, ey) l)))

  pub nth_later : ones (bit_and x y) ≤ n →
      slice_get (shared_from us bs (i + 1)) (n - ones (bit_and x y)) ≡ slice_get (shared_from us bs i) n
  nth_later l =
      rw (← ex, ← ey)
      (sym (nth_past us bs i h alike (rw ex fx) (rw ey fy) n (rw (ex, ey) l)))

pub shared_end : (us bs : List ℕ) (i : ℕ) → length us ≤ i → shared_from us bs i ≡ []
unfolding both
shared_end us bs i h =
    let e : drop i us ≡ [] = drop_all i us h in
    ap (λ t. both (bits_of t) (bits_of (drop i bs)) (64 * i)) e
