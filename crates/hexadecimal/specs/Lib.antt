pub mod Hexadecimal
pub mod Outcome
