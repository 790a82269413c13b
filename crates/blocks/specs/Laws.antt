-- What is written is read back. Each is a type whose proof is owed. Definitions only.
use Rattle.std.specs.Prelude.{◌≡◌, ℕ, ◌*◌, ◌<◌, ◌≤◌, Bool, List, [], ◌++◌, length, take, slice_index, slice_index_or}
use Rattle.std.specs.List.{flat_map}
use Rattle.blocks.specs.Words.{Words, bytes_of, chunks}
use Rattle.blocks.specs.Blocks.{block_bytes, blocks_of, table_blocks, loaded}
use Rattle.blocks.specs.Bits.{bits_of, bits_words}

-- a string of bytes from its words
abbrev pub StringBack : Type 0
StringBack =
    (k : ℕ) (n : List ℕ) → ((j : ℕ) → slice_index n j < 256) → length n ≤ 8 * k →
    take (length n) (flat_map (bytes_of 8) (chunks k 0 n)) ≡ n

-- a table from its blocks, whatever follows them; and its k-th block
abbrev pub TableBack : Type 0
TableBack = (ws : List ℕ) (rest : List (List ℕ)) → Words ws → loaded (length ws) (table_blocks ws ++ rest) ≡ ws

abbrev pub BlockAt : Type 0
BlockAt = (n k : ℕ) (ws : List ℕ) → k < n → slice_index_or (blocks_of n ws) k [] ≡ block_bytes k ws

-- bits from their words
abbrev pub BitsBack : Type 0
BitsBack = (n : ℕ) (bs : List Bool) → length bs ≤ 64 * n → take (length bs) (bits_of (bits_words n bs)) ≡ bs
