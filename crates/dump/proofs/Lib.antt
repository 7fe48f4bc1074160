-- Laws of messages as text, for the proofs of this crate.
pub mod Shown
