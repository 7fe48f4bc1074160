-- What follows from rule 2 for settings and state, for other crates to cite.
pub mod Holds
pub mod Tests
