-- Numerals: the steps of reading a number
-- Letters: the steps of reading a word
-- Rows: the steps of printing a word
-- Figures: numbers come back
-- Spelled: words come back
-- Printable: words are printable ASCII
mod Numerals
mod Letters
mod Rows
pub mod Figures
pub mod Spelled
mod Printable
