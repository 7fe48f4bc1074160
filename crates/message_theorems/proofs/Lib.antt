-- Proofs of the theorems of specs.
pub mod Fields
pub mod Longer
pub mod Numbers
pub mod Messages
pub mod Readable
pub mod Order
pub mod WriteOrder
pub mod Keys
pub mod Partial
