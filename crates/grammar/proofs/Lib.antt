-- Laws of a script's grammar, for the proofs of this crate and of those above it.
pub mod Faults
pub mod Tables
