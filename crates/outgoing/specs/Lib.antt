pub mod Outgoing
pub mod Held
