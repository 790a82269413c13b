-- Index: rows one after another (Joins); words, bytes and strings (Words); tables as blocks (Blocks); bits (Bits)
pub mod Joins
pub mod Words
pub mod Blocks
pub mod Bits
