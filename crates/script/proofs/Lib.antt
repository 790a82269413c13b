-- Trips: calls come back from their lines
pub mod Trips
