-- Proofs of the theorems of specs/Theorems.antt.
pub mod Theorems
