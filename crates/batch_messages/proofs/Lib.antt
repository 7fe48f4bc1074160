-- Fields that are held, for other crates to cite.
pub mod Held
