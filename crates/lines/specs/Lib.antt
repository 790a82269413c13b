pub mod Verbs
pub mod Printing
