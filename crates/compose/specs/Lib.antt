pub mod Compose
pub mod Placed
