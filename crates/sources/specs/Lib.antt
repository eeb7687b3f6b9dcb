-- What sources mean, and what a token file means.
pub mod Source
pub mod Mending
pub mod Recorded
pub mod Bytes
pub mod Fields
pub mod Contents
pub mod Entering
pub mod Filed
pub mod FileSource
