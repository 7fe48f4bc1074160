-- Laws of a script's lines, for the proofs of this crate.
pub mod Says
