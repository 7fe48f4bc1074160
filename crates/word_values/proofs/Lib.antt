-- Laws of what a word says, for the proofs of this crate.
pub mod Values
