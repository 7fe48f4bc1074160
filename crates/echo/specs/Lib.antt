pub mod Echo
pub mod Theorems
