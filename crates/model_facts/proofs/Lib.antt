-- Index: names, nodes of a tree, cells, bytes
pub mod Names
pub mod Nodes
pub mod Cells
pub mod Zeros
