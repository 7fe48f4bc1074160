pub mod Entries
pub mod Values
