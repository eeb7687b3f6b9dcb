pub mod Lexer
pub mod Looks
