-- The lemmas behind the sources.
pub mod Reading
pub mod Decoding
pub mod Laws
pub mod Numbering
pub mod Filing
