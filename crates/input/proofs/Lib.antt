-- Laws of what a line takes, for the proofs of this crate and of those above it.
pub mod Feeds
pub mod Lines
