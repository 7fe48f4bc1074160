-- Laws of the lines of a script, for the proofs of this crate.
pub mod Laws
pub mod Scripts
