pub mod Layout
pub mod Image
pub mod Sized
pub mod Theorems
