-- The starred cases: what computes, and case *i; a sale with a chip; and what is reached.
pub mod Machine
pub mod Cases
pub mod Approvals
pub mod Starts
pub mod Sales
pub mod Worked
pub mod WithChip
pub mod Reached
pub mod ForC
pub mod Prepaid
