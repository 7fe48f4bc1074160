pub mod RoundTrip
pub mod Readable
pub mod Order
pub mod Keys
pub mod Partial
