-- Laws of the traces in the journal, for other crates to cite.
pub mod Entries
pub mod Absent
pub mod Ordered
pub mod Noted
pub mod Passing
pub mod Free
pub mod Theorems
