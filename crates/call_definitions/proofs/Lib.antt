-- Laws of the calls, for other crates to cite.
pub mod Theorems
pub mod Refusals
pub mod Held
pub mod Quietly
