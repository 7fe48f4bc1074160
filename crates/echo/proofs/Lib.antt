-- Laws of the echo of a line.
pub mod Lines
pub mod Theorems
