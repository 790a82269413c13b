-- TABLES AS BLOCKS of 4,096 bytes: 512 words to a block, each as eight bytes, the lowest first. Definitions only.
use Rattle.std.specs.Prelude.{ℕ, zero, suc, ◌+◌, ◌-◌, ◌*◌, ◌/◌, min, List, [], ◌∷◌, ◌++◌, length, take, drop}
use Rattle.std.specs.List.{flat_map}
use Rattle.blocks.specs.Words.{pad, bytes_of, chunks}

-- the k-th block of a table: its words, with zeros after the last, and their bytes
abbrev pub block_words : ℕ → List ℕ → List ℕ
block_words k ws = pad 512 (take 512 (drop (512 * k) ws))

abbrev pub block_bytes : ℕ → List ℕ → List ℕ
block_bytes k ws = flat_map (bytes_of 8) (block_words k ws)

-- how many blocks so many words take
abbrev pub blocks_count : ℕ → ℕ
blocks_count n = (n + 511) / 512

-- the first n blocks of a table, and all of them
abbrev pub blocks_of : ℕ → List ℕ → List (List ℕ)
blocks_of zero ws = []
blocks_of (suc n) ws = flat_map (bytes_of 8) (pad 512 (take 512 ws)) ∷ blocks_of n (drop 512 ws)

abbrev pub table_blocks : List ℕ → List (List ℕ)
table_blocks ws = blocks_of (blocks_count (length ws)) ws

-- n words of a row of blocks
abbrev pub loaded : ℕ → List (List ℕ) → List ℕ
loaded n [] = []
loaded n (b ∷ bs) = chunks (min n 512) 0 b ++ loaded (n - 512) bs
