pub mod Entry
pub mod Form
pub mod Theorems
