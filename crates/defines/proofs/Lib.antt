pub mod Fronts
pub mod Meanings
pub mod Removals
pub mod Rows
pub mod Sames
