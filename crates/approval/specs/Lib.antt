pub mod Approval
pub mod Cards
