pub mod Commands
pub mod Flashes
