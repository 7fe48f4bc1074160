-- Laws of one field, for the proofs of this crate and of those above it.
pub mod Held
pub mod Frame
pub mod Bytes
