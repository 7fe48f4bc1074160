-- Laws of reading, for the proofs of this crate and of those above it.
pub mod Fields
pub mod Field
