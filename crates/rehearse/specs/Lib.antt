pub mod Rehearsal
pub mod Commands
pub mod Scripts
