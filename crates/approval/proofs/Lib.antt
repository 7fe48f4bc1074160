-- Laws of the entry of an approval, for other crates to cite.
pub mod Approval
pub mod Fronts
