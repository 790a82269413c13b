-- Fronts: what two lists begin with both
-- Choosing: the verb of a line
mod Fronts
mod Choosing
