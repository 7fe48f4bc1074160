pub mod Bytes
pub mod Lines
pub mod Rows
pub mod Words
