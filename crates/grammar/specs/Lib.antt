pub mod Table
pub mod Shapes
