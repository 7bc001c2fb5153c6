pub mod Answers
pub mod Calls
pub mod Each
pub mod Ends
pub mod Keeps
pub mod Readings
pub mod Steps
