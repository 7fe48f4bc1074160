-- Laws of the journal, for other crates to cite.
pub mod Entries
pub mod Chunks
pub mod Places
pub mod Searches
pub mod Traces
pub mod Sums
pub mod Marks
pub mod Reordered
