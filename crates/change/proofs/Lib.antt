-- Index: how far tables reach (Reached); a node made (Made); tables from which an entry went (Gone)
mod Reached
mod Made
pub mod Gone
