-- Laws of the desk for other crates to cite.
pub mod Chips
