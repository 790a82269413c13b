-- Index: bytes of a slice (Typed), places of nodes in sound tables (Places), names in directories (Entries), going down a tree
-- (Down), how far that goes (Levels), entries and kinds by what was found (Alike), what was found and is of a kind (Kept), what
-- code may rely on where there is some tree (Rely)
pub mod Typed
pub mod Places
pub mod Entries
pub mod Down
pub mod Levels
pub mod Alike
pub mod Rely
pub mod Kept
