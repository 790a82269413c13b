-- Index: words put into a table and taken out (Splices); sums changed row by row (Shifts)
mod Splices
mod Shifts
