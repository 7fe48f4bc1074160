-- Laws of the functions for C.
pub mod Leaves
pub mod Numbers
pub mod Theorems
