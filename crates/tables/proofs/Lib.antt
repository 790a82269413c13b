-- Where each proof is. Lists alone: Splices (words put into a padded table, taken out, written), Rows (the first row
-- of which a test holds). Trees: Nodes (a node found, changed, left out), Bodies (what the node at a
-- place has), Keys (names and their keys). Tables: Sums (the running sums, shifted), Summing (the sums made from the nodes), NodeRows
-- (a node by its id), EntryRows (entries, names and cells), Parts (one node's words in each table), CellParts (its cells), Changes (each change), Operations
-- (the tree's operations), Held (what is read of tables that hold a tree), Ranges and Reaches (how far they reach). Data blocks: Owned
-- (those that a tree has), OwnedAfter (after the tree's operations). The journal: Appends.
pub mod Splices
pub mod Rows
pub mod Nodes
pub mod Bodies
pub mod Keys
pub mod Sums
pub mod Summing
pub mod NodeRows
pub mod EntryRows
pub mod Parts
pub mod CellParts
pub mod Changes
pub mod Operations
pub mod Held
pub mod Ranges
pub mod Reaches
pub mod Owned
pub mod OwnedAfter
pub mod Appends
