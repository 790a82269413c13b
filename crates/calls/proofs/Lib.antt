-- Index: calls by number (Numbered)
pub mod Numbered
