-- Laws of the lines that a rehearsal writes.
pub mod Lines
