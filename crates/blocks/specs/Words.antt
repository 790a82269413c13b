-- WORDS: numbers of eight bytes, in tables of a fixed length. Definitions only.
use Rattle.std.specs.Prelude.{ℕ, zero, suc, ◌+◌, ◌-◌, ◌*◌, ◌/◌, ◌%◌, ◌^◌, ◌<◌, Bool, true, false, cond, List, [], ◌∷◌, ◌++◌, length, take, drop, replicate, ◌==◌, nat_lt, slice_index, slice_range}

-- what a word can hold
abbrev pub Words : List ℕ → Type 0
Words ws = (k : ℕ) → slice_index ws k < 2 ^ 64

-- a table of n words: those in use, then zeros
abbrev pub pad : ℕ → List ℕ → List ℕ
pad n xs = xs ++ replicate (n - length xs) 0

-- so many words of a list, from a place on
abbrev pub part : ℕ → ℕ → List ℕ → List ℕ
part at n ws = take n (drop at ws)

-- a table of which the first `used` words are in use, with words put in at a place: what was in use from there on moves up
abbrev pub opened : ℕ → ℕ → List ℕ → List ℕ → List ℕ
opened used at new ws = take at ws ++ (new ++ (slice_range ws at used ++ drop (used + length new) ws))

-- and with n words taken out there: what was in use after them moves down, and zeros come in at the end
abbrev pub closed : ℕ → ℕ → ℕ → List ℕ → List ℕ
closed used at n ws = take at ws ++ (take (used - (at + n)) (drop (at + n) ws) ++ (replicate n 0 ++ drop used ws))

-- bytes as a number, the lowest first; and the k lowest bytes of a number
abbrev pub le : List ℕ → ℕ
le [] = 0
le (b ∷ bs) = b + 256 * le bs

abbrev pub bytes_of : ℕ → ℕ → List ℕ
bytes_of zero w = []
bytes_of (suc k) w = w % 256 ∷ bytes_of k (w / 256)

-- k words of a string of bytes, from a place on; zeros after its end
abbrev pub chunks : ℕ → ℕ → List ℕ → List ℕ
chunks zero at bs = []
chunks (suc k) at bs = le (take 8 (drop at bs)) ∷ chunks k (at + 8) bs

-- of words that hold so many bytes: are all bytes after them zeros?
abbrev pub zeros_after : ℕ → List ℕ → Bool
zeros_after len [] = true
zeros_after len (w ∷ ws) =
    cond (nat_lt len 8) (cond (w / 2 ^ (8 * len) == 0) (zeros_after 0 ws) false) (zeros_after (len - 8) ws)
