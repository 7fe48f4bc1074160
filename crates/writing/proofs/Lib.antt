-- Laws of writing, for the proofs of this crate and of those above it.
pub mod Faults
pub mod Putting
