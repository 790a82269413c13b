-- Index: the same slices after two calls (Same); all words of memory, and those of each table (Whole)
pub mod Same
pub mod Whole
