-- The lemmas behind the table of names.
pub mod Tables
pub mod Cuts
pub mod Numbers
pub mod Words
pub mod Growth
