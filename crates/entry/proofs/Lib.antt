-- Laws of entries, for other crates to cite.
pub mod Bytes
pub mod Form
pub mod Theorems
