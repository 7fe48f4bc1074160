-- What follows from rules 1 and 2, and laws of their tests, for other crates to cite.
pub mod InOrder
pub mod Judged
pub mod Idle
pub mod Tests
pub mod Summing
