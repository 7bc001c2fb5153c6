pub mod Executions
pub mod Grants
pub mod Issues
pub mod Jumps
pub mod Numbers
pub mod Turns
pub mod Waits
