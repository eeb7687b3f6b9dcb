pub mod Places
pub mod Puncts
pub mod Faults
pub mod Floats
pub mod Texts
