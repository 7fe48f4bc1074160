-- Laws of a field that is written, for the proofs of this crate and of those above it.
pub mod Counts
pub mod Parts
