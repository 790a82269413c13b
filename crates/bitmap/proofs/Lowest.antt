-- The lowest clear bit: found word by word, and taken. Taking it makes the next one no lower, and one clear bit fewer.
use Rattle.std.proofs.Common.{◌≡◌, ℕ, zero, suc, ◌+◌, ◌-◌, ◌*◌, ◌^◌, ◌<◌, ◌≤◌, Bool, true, false, List, [], ◌∷◌, ◌++◌, length, get_or, take, drop, set, Some, None, not, eqb, ltb, sym, refl, ap, ◌∙◌, append_assoc, arith, length-drop}
use Rattle.std.proofs.lemmas.Bool.{lt-ltb, le-ltb}
use Rattle.std.specs.List.{position_or_len}
use Rattle.std.proofs.lemmas.List.Sums.{fails_before_first, passes_at_first, prefix_len-le-length}
use Rattle.std.proofs.lemmas.Bool.Decides.{nat_tests}
use lib.Count.{count_trailing_zeros, trailing_of_zero}
use Rattle.std.proofs.lemmas.List.{at_drop_more, at_drop_all, take_more_set, get_or-drop}
use Rattle.blocks.specs.Bits.{word_bits, bits_of}
use Rattle.machine.specs.State.{count_set, free, marked}
use Rattle.bitmap.specs.Bitmap.{lowest_clear, lowest_in}
use Rattle.bitmap.specs.Laws.{FreeFirst, LowestRises, CountRises}
use Rattle.bitmap.proofs.WordBits.{length_word, lowest_word, not_full_word}
use Rattle.bitmap.proofs.Maps.{drop_bits, length_bits}

-- of two rows, one after the other
lowest_full : (xs ys : List Bool) → lowest_clear xs ≡ length xs → lowest_clear (xs ++ ys) ≡ length xs + lowest_clear ys
lowest_full [] ys e = omega arith
lowest_full (true ∷ xs) ys e = let i = lowest_full xs ys (omega arith) in omega arith
lowest_full (false ∷ xs) ys e = absurd (omega arith)

lowest_part : (xs ys : List Bool) → lowest_clear xs < length xs → lowest_clear (xs ++ ys) ≡ lowest_clear xs
lowest_part [] ys e = absurd (omega arith)
lowest_part (true ∷ xs) ys e = let i = lowest_part xs ys (omega arith) in omega arith
lowest_part (false ∷ xs) ys e = refl

pub lowest_le : (bs : List Bool) → lowest_clear bs ≤ length bs
lowest_le [] = omega arith
lowest_le (true ∷ bs) = let i = lowest_le bs in omega arith
lowest_le (false ∷ bs) = omega arith

-- word by word
lowest_after : (n : ℕ) (bs : List Bool) → n ≤ lowest_clear bs → n + lowest_clear (drop n bs) ≡ lowest_clear bs
lowest_after zero bs h = omega arith
lowest_after (suc n) [] h = absurd (omega arith)
lowest_after (suc n) (true ∷ bs) h = let i = lowest_after n bs (omega arith) in omega arith
lowest_after (suc n) (false ∷ bs) h = absurd (omega arith)

pub lowest_start : (ws : List ℕ) (i : ℕ) → 64 * i ≤ lowest_clear (bits_of ws) →
    64 * i + lowest_clear (bits_of (drop i ws)) ≡ lowest_clear (bits_of ws)
lowest_start ws i h = ap (λ t. 64 * i + lowest_clear t) (sym (drop_bits i ws)) ∙ lowest_after (64 * i) (bits_of ws) h

pub lowest_miss : (ws : List ℕ) (i : ℕ) → i < length ws → get_or ws i 0 ≡ 2 ^ 64 - 1 →
    64 * i + lowest_clear (bits_of (drop i ws)) ≡ 64 * (i + 1) + lowest_clear (bits_of (drop (i + 1) ws))
lowest_miss ws i h e =
    let w = get_or ws i 0 in
    let f = at_drop_more (λ xs. lowest_clear (bits_of xs)) ws i 0 h in
    let t : count_trailing_zeros 64 (2 ^ 64 - 1 - w) ≡ 64 = ap (λ x. count_trailing_zeros 64 (2 ^ 64 - 1 - x)) e ∙ trailing_of_zero 64 in
    let l = lowest_word w (omega arith) in
    let n = length_word w in
    let g = lowest_full (word_bits w) (bits_of (drop (i + 1) ws)) (omega arith) in
    omega arith

pub lowest_hit : (ws : List ℕ) (i : ℕ) → i < length ws → get_or ws i 0 < 2 ^ 64 → (get_or ws i 0 ≡ 2 ^ 64 - 1 → ⊥) →
    lowest_clear (bits_of (drop i ws)) ≡ count_trailing_zeros 64 (2 ^ 64 - 1 - get_or ws i 0)
lowest_hit ws i h b ne =
    let w = get_or ws i 0 in
    let f = at_drop_more (λ xs. lowest_clear (bits_of xs)) ws i 0 h in
    let l = lowest_word w b in
    let n = length_word w in
    let lt = not_full_word w b ne in
    let g = lowest_part (word_bits w) (bits_of (drop (i + 1) ws)) (omega arith) in
    omega arith

pub lowest_end : (ws : List ℕ) (i : ℕ) → length ws ≤ i → lowest_clear (bits_of (drop i ws)) ≡ 0
lowest_end ws i h = at_drop_all (λ xs. lowest_clear (bits_of xs)) ws i h

-- the lowest clear bit as an answer, where there is one and where there is none
pub lowest_is : (bs : List Bool) → lowest_clear bs < length bs → lowest_in bs ≡ Some (lowest_clear bs)
lowest_is bs l = let t : ltb (lowest_clear bs) (length bs) ≡ true = lt-ltb (lowest_clear bs) (length bs) l in rw t refl

pub lowest_some : (bs : List Bool) (k : ℕ) → lowest_clear bs < length bs → lowest_in bs ≡ Some k → k ≡ lowest_clear bs
lowest_some bs k l e = let s = lowest_is bs l in cc

pub lowest_none : (bs : List Bool) → lowest_clear bs ≡ length bs → lowest_in bs ≡ None
lowest_none bs e = let t : ltb (length bs) (length bs) ≡ false = le-ltb (length bs) (length bs) (omega arith) in rw (e, t) refl

-- n full words
full_run : (ws : List ℕ) (i n : ℕ) → i + n ≤ length ws → ((k : ℕ) → k < n → get_or ws (i + k) 0 ≡ 2 ^ 64 - 1) →
    64 * i + lowest_clear (bits_of (drop i ws)) ≡ 64 * (i + n) + lowest_clear (bits_of (drop (i + n) ws))
full_run ws i zero h full = let z : i + 0 ≡ i = omega arith in rw z refl
full_run ws i (suc n) h full =
    let s : i + suc n ≡ (i + n) + 1 = omega arith in
    rw s (full_run ws i n (omega arith) (λ k l. full k (omega arith)) ∙ lowest_miss ws (i + n) (omega arith) (full n (omega arith)))

-- is a word not full?
abbrev pub has_clear : ℕ → Bool
has_clear w = not (eqb w (2 ^ 64 - 1))

no_clear : (w : ℕ) → has_clear w ≡ false → w ≡ 2 ^ 64 - 1
no_clear w e = grind (arith, nat_tests)

not_full : (w : ℕ) → has_clear w ≡ true → w ≡ 2 ^ 64 - 1 → ⊥
not_full w e f = grind (arith, nat_tests)

-- a search for a word that is not full, from one on: where it ended, and what the lowest clear bit then is
module _ (ws : List ℕ) (fits : (k : ℕ) → get_or ws k 0 < 2 ^ 64) (from n : ℕ) (inside : from ≤ length ws)
    (start : 64 * from ≤ lowest_clear (bits_of ws)) (ended : position_or_len has_clear (drop from ws) ≡ n) where
  passed : from + n ≤ length ws → 64 * (from + n) + lowest_clear (bits_of (drop (from + n) ws)) ≡ lowest_clear (bits_of ws)
  passed h =
      let all : (k : ℕ) → k < n → get_or ws (from + k) 0 ≡ 2 ^ 64 - 1 = λ k l.
      sym (get_or-drop from ws k 0)
      ∙ no_clear (get_or (drop from ws) k 0) (fails_before_first has_clear (drop from ws) k 0 (rw ended l)) in
      sym (full_run ws from n h all) ∙ lowest_start ws from start

  pub search_hit : n < length (drop from ws) →
      Some (64 * (from + n) + count_trailing_zeros 64 (2 ^ 64 - 1 - get_or ws (from + n) 0)) ≡ lowest_in (bits_of ws)
  search_hit l =
      let d = length-drop from ws in
      let w : ℕ = get_or ws (from + n) 0 in
      let p = passed (omega arith) in
      let f : w < 2 ^ 64 = fits (from + n) in
      let pass = passes_at_first has_clear (drop from ws) 0 (rw ended l) in
      let has : has_clear w ≡ true = ap has_clear (sym (get_or-drop from ws n 0)) ∙ rw ended at pass in
      let hit = lowest_hit ws (from + n) (omega arith) f (not_full w has) in
      let few = not_full_word w f (not_full w has) in
      let low = lowest_word w f in
      let b = length_bits ws in
      let e : lowest_clear (bits_of ws) ≡ 64 * (from + n) + count_trailing_zeros 64 (2 ^ 64 - 1 - w) = omega arith in
      sym (lowest_is (bits_of ws) (omega arith) ∙ ap Some e)

  pub search_miss : length (drop from ws) ≤ n → None ≡ lowest_in (bits_of ws)
  search_miss l =
      let d = length-drop from ws in
      let b = length_bits ws in
      let m = prefix_len-le-length (λ w. not (has_clear w)) (drop from ws) in
      let all : from + n ≡ length ws = omega arith in
      let p = passed (omega arith) in
      let z = lowest_end ws (from + n) (omega arith) in
      sym (lowest_none (bits_of ws) (omega arith))

-- taking it
pub some_clear : (bs : List Bool) → count_set bs < length bs → lowest_clear bs < length bs
unfolding count_set
some_clear [] h = absurd (omega arith)
some_clear (true ∷ bs) h = let i = some_clear bs (omega arith) in omega arith
some_clear (false ∷ bs) h = omega arith

pub lowest_rises : LowestRises
lowest_rises [] = omega arith
lowest_rises (true ∷ bs) = let i = lowest_rises bs in omega arith
lowest_rises (false ∷ bs) = omega arith

pub count_rises : CountRises
unfolding count_set
count_rises [] h = absurd (omega arith)
count_rises (true ∷ bs) h = let i = count_rises bs (omega arith) in omega arith
count_rises (false ∷ bs) h = omega arith

free_true : (n : ℕ) (bs : List Bool) (k : ℕ) → free n (true ∷ bs) k ≡ free n bs (suc k)
unfolding free
free_true zero bs k = refl
free_true (suc n) bs k = refl

pub free_first : FreeFirst
unfolding free
free_first n [] k h = absurd (omega arith)
free_first n (true ∷ bs) k h =
    let e : suc k + lowest_clear bs ≡ k + suc (lowest_clear bs) = omega arith in
    free_first n bs (suc k) (omega arith)
    ∙ (ap (λ x. x ∷ free n (set bs (lowest_clear bs) true) (suc k)) e
    ∙ ap (λ t. (k + suc (lowest_clear bs)) ∷ t) (sym (free_true n (set bs (lowest_clear bs) true) k)))
free_first n (false ∷ bs) k h =
    let e : k ≡ k + 0 = omega arith in
    ap (λ x. x ∷ free n bs (suc k)) e ∙ ap (λ t. (k + 0) ∷ t) (sym (free_true n bs k))

-- one step of taking many: m are left, k is the next
module _ (m k : ℕ) (bs cs : List Bool) (low : lowest_clear bs < length bs) (at : k ≡ lowest_clear bs)
    (next : cs ≡ set bs k true) where
  next_free : free (suc m) bs 0 ≡ k ∷ free m cs 0
  next_free =
      let z : 0 + lowest_clear bs ≡ k = omega arith in
      let e : set bs (lowest_clear bs) true ≡ cs = ap (λ j. set bs j true) (sym at) ∙ sym next in
      free_first m bs 0 low ∙ (ap (λ x. x ∷ free m (set bs (lowest_clear bs) true) 0) z ∙ ap (λ t. k ∷ free m t 0) e)

  pub marked_step : marked (free (suc m) bs 0) bs ≡ marked (free m cs 0) cs
  unfolding marked
  marked_step = ap (λ t. marked t bs) next_free ∙ ap (marked (free m cs 0)) (sym next)

  pub taken_step : (out : List ℕ) (i : ℕ) → i < length out →
      take i out ++ free (suc m) bs 0 ≡ take (i + 1) (set out i k) ++ free m cs 0
  taken_step out i h =
      ap (λ t. take i out ++ t) next_free
      ∙ (sym (append_assoc (take i out) (k ∷ []) (free m cs 0))
      ∙ ap (λ t. t ++ free m cs 0) (sym (take_more_set out i k h)))

  pub lowest_step : lowest_clear bs ≤ lowest_clear cs
  lowest_step = simp (next, at) (lowest_rises bs)

  pub count_step : count_set cs ≡ suc (count_set bs)
  count_step = simp (next, at) (count_rises bs low)
