pub mod Commands
pub mod Laws
pub mod Seen
pub mod World
