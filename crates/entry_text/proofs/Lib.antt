-- Laws of the line of an entry, for the proofs of this crate.
pub mod Entries
