pub mod Steadiness
