pub mod Segments
pub mod Unchanged
