-- Index: searches (Searches); the rows of entries (EntryRows); words as bytes and bytes as words (Bytes); a name's words (NameWords)
mod Searches
mod EntryRows
pub mod Bytes
mod NameWords
