-- Laws of digits as text, for the proofs of this crate.
pub mod Symbols
