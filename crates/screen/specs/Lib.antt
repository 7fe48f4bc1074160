pub mod Outcomes
pub mod Shows
