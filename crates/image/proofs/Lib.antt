-- Laws of the image's code.
pub mod Region
pub mod Rows
