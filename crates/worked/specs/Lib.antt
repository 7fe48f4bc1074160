pub mod Desk
pub mod Worked
pub mod WithChip
pub mod Reached
pub mod ForC
pub mod Prepaid
