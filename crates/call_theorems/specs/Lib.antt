pub mod Ready
pub mod Facts
pub mod Order
pub mod UnusedFields
pub mod JournalRest
pub mod Sums
