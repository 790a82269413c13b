-- Index: an item's words, how many they are and that they are put part by part (ItemWords); a name read (NameWords); an item read,
-- by its names (ItemsRead)
mod ItemWords
mod NameWords
mod ItemsRead
