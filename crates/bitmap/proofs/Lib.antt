-- Index. From one word to maps that are held in memory:
--   Lists               elements of lists
--   WordBits            the bits of one word
--   Maps                the bits of a list of words: one read or written, words skipped
--   Each                many bits set or cleared
--   Lowest              the lowest clear bit, and taking it
--   Counting            set bits counted, word by word
--   Places, Shared      the places of set bits; bits that are set in two maps
--   Padded, Exact       bits followed by zeros; words are pinned by their bits
pub mod Lists
pub mod WordBits
pub mod Maps
mod Each
pub mod Lowest
pub mod Places
pub mod Counting
pub mod Shared
pub mod Padded
pub mod Exact
