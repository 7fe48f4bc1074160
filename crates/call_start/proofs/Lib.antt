pub mod Results
pub mod Dates
