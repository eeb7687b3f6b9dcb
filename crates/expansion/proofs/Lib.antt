pub mod Bars
pub mod Stacks
pub mod Counts
pub mod Places
pub mod Meets
pub mod Fronts
pub mod Motions
pub mod Stepping
