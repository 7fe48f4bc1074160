-- Laws of contents that are tested and copied.
pub mod Packed
pub mod Taken
