pub mod Parts
pub mod Held
pub mod Changes
pub mod Values
pub mod Entries
pub mod Sounds
pub mod ReadingOn
