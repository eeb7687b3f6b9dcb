-- What the table of names means.
pub mod Spans
pub mod Interning
pub mod Table
