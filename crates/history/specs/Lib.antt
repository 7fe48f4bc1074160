pub mod Words
pub mod History
pub mod Demand
pub mod Totals
pub mod Summing
pub mod Consent
pub mod NotEmpty
