-- Index: the tables of the small tree hold it, and it fits (Held)
mod Held
