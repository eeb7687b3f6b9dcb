pub mod Stacks
pub mod ReadingOn
