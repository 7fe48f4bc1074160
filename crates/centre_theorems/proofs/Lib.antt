-- Proofs of the theorems of specs/Theorems.antt.
pub mod Kept
pub mod Figures
pub mod Types
pub mod Answered
pub mod Left
pub mod Theorems
