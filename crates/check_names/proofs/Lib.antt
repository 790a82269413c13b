-- Index: refusals by what was found (Reasons), those of renames (Moves)
mod Reasons
mod Moves
