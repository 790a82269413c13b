-- LAWS OF MAPS. Taking the lowest clear bit; maps of any number of bits, where those that do not fill the last word are
-- followed by zeros that nobody sees; and words, which their bits pin. Each is a type whose proof is owed. Definitions only.
use Rattle.std.specs.Prelude.{◌≡◌, ℕ, suc, ◌+◌, ◌-◌, ◌*◌, ◌<◌, ◌≤◌, Bool, true, false, List, ◌∷◌, ◌++◌, length, replicate, slice_index_or, slice_set}
use Rattle.std.specs.List.{AllByRecursion}
use Rattle.blocks.specs.Bits.{bits_of, bits_words}
use Rattle.blocks.specs.Words.{Words}
use Rattle.machine.specs.State.{count_set, free, marked, both}
use Rattle.tables.specs.Own.{unmarked}
use Rattle.bitmap.specs.Bitmap.{lowest_clear}

-- THE LOWEST CLEAR BIT is the first that is free; when it is taken, the next is no lower, and one more is set
abbrev pub FreeFirst : Type 0
FreeFirst = (n : ℕ) (bs : List Bool) (k : ℕ) → lowest_clear bs < length bs →
    free (suc n) bs k ≡ (k + lowest_clear bs) ∷ free n (slice_set bs (lowest_clear bs) true) k

abbrev pub LowestRises : Type 0
LowestRises = (bs : List Bool) → lowest_clear bs ≤ lowest_clear (slice_set bs (lowest_clear bs) true)

abbrev pub CountRises : Type 0
CountRises = (bs : List Bool) → lowest_clear bs < length bs →
    count_set (slice_set bs (lowest_clear bs) true) ≡ suc (count_set bs)

-- BITS FOLLOWED BY ZEROS
abbrev pub CountPadded : Type 0
CountPadded = (m : ℕ) (bs : List Bool) → count_set (bs ++ replicate m false) ≡ count_set bs

-- while enough of them are clear
abbrev pub FreePadded : Type 0
FreePadded = (n m k : ℕ) (bs : List Bool) → n + count_set bs ≤ length bs → free n (bs ++ replicate m false) k ≡ free n bs k

abbrev pub FreeBelow : Type 0
FreeBelow = (n : ℕ) (bs : List Bool) → AllByRecursion (λ x. x < length bs) (free n bs 0)

abbrev pub MarkedPadded : Type 0
MarkedPadded = (m : ℕ) (ks : List ℕ) (bs : List Bool) → AllByRecursion (λ x. x < length bs) ks →
    marked ks (bs ++ replicate m false) ≡ marked ks bs ++ replicate m false

abbrev pub UnmarkedPadded : Type 0
UnmarkedPadded = (m : ℕ) (ks : List ℕ) (bs : List Bool) → AllByRecursion (λ x. x < length bs) ks →
    unmarked ks (bs ++ replicate m false) ≡ unmarked ks bs ++ replicate m false

abbrev pub BothPadded : Type 0
BothPadded = (m k : ℕ) (cs bs : List Bool) → length cs ≡ length bs →
    both (cs ++ replicate m false) (bs ++ replicate m false) k ≡ both cs bs k

-- WORDS AND THEIR BITS: the words of some bits have those bits and then zeros, and no other words do
abbrev pub WordsPadded : Type 0
WordsPadded = (n : ℕ) (bs : List Bool) → length bs ≤ 64 * n →
    bits_of (bits_words n bs) ≡ bs ++ replicate (64 * n - length bs) false

abbrev pub WordsPinned : Type 0
WordsPinned = (m : ℕ) (ws : List ℕ) (bs : List Bool) → Words ws → bits_of ws ≡ bs ++ replicate m false →
    ws ≡ bits_words (length ws) bs

-- WHAT A CALLER HAS, whose map of n words is `bits_words n bs`: answers that are those of the bits, and the words afterwards
pub record OfTheBits (n : ℕ) (bs : List Bool) : Type 0 where
  pub is_set : (k : ℕ) → k < length bs → slice_index_or (bits_of (bits_words n bs)) k false ≡ slice_index_or bs k false
  pub count : count_set (bits_of (bits_words n bs)) ≡ count_set bs
  pub shared : (cs : List Bool) → length cs ≡ length bs →
      both (bits_of (bits_words n cs)) (bits_of (bits_words n bs)) 0 ≡ both cs bs 0
  pub taken : (c : ℕ) → c + count_set bs ≤ length bs → free c (bits_of (bits_words n bs)) 0 ≡ free c bs 0

pub record After (n : ℕ) (bs : List Bool) (ws : List ℕ) : Type 0 where
  pub set_or_cleared : (k : ℕ) (b : Bool) → k < length bs → bits_of ws ≡ slice_set (bits_of (bits_words n bs)) k b →
      ws ≡ bits_words n (slice_set bs k b)
  pub all_marked : (ks : List ℕ) → AllByRecursion (λ x. x < length bs) ks → bits_of ws ≡ marked ks (bits_of (bits_words n bs)) →
      ws ≡ bits_words n (marked ks bs)
  pub all_unmarked : (ks : List ℕ) → AllByRecursion (λ x. x < length bs) ks → bits_of ws ≡ unmarked ks (bits_of (bits_words n bs)) →
      ws ≡ bits_words n (unmarked ks bs)
  pub lowest_taken : (c : ℕ) → c + count_set bs ≤ length bs →
      bits_of ws ≡ marked (free c (bits_of (bits_words n bs)) 0) (bits_of (bits_words n bs)) →
      ws ≡ bits_words n (marked (free c bs 0) bs)

abbrev pub AnswersExact : Type 0
AnswersExact = (n : ℕ) (bs : List Bool) → length bs ≤ 64 * n → OfTheBits n bs

abbrev pub ChangesExact : Type 0
ChangesExact = (n : ℕ) (bs : List Bool) (ws : List ℕ) → length bs ≤ 64 * n → length ws ≡ n → Words ws → After n bs ws

abbrev pub EmptyExact : Type 0
EmptyExact = (n m : ℕ) → bits_words n (replicate m false) ≡ replicate n 0
