-- Laws of what a call changes.
pub mod Theorems
pub mod SignOn
pub mod Partial
