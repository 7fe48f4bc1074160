-- Laws of hexadecimal text, for the proofs of this crate and of those above it.
pub mod Hexadecimal
