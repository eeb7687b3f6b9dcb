pub mod Steady
pub mod Runs
pub mod Parts
