pub mod Delimiters
pub mod Processor
pub mod Arguments
pub mod Phases
pub mod Sane
pub mod Moved
pub mod Steps
