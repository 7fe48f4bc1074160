-- Laws of messages put together, for the crates above.
pub mod Places
pub mod Bitmaps
pub mod Held
pub mod Composed
pub mod Sound
pub mod Items
pub mod Laid
