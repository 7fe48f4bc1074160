pub mod Asked
pub mod Asks
pub mod Shows
