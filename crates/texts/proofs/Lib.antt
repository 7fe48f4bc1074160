-- Laws of texts that grow in a buffer, for the proofs of this crate and of those above it.
pub mod Decimal
pub mod Texts
