pub mod Interface
pub mod Theorems
