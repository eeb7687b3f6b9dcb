pub mod Converts
pub mod Reads
pub mod Blocks
