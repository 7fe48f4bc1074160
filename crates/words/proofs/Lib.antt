-- Laws of words, for the proofs of this crate.
pub mod Lines
pub mod Places
pub mod Tables
