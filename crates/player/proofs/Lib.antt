-- Standing: a player that stands as before
-- Lines: the first line of a text
mod Standing
mod Lines
pub mod Stage
