pub mod Lookup
pub mod Edits
pub mod Stands
pub mod Own
pub mod Append
pub mod LookupLaws
pub mod EditLaws
