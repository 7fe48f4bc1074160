pub mod Template
