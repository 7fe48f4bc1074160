pub mod Journal
pub mod Sums
pub mod Reordered
