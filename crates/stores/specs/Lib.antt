pub mod Spans
pub mod Places
pub mod Tank
pub mod Marks
pub mod Idents
pub mod Lent
pub mod Growing
