pub mod Names
pub mod Simple
pub mod Taken
