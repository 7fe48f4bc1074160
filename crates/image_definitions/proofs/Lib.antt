-- Laws of the image, for other crates to cite.
pub mod Laid
pub mod Region
pub mod Values
pub mod Bounds
pub mod Theorems
pub mod Found
