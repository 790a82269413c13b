-- Index: refusals by what was found (Reasons)
mod Reasons
