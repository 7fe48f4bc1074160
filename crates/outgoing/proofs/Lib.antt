-- Laws of the messages that leave, for the crates above.
pub mod Fields
pub mod Codes
pub mod Leaving
