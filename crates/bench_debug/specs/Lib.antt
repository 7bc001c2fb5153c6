pub mod FirstStop
pub mod Running
pub mod Session
pub mod Stops
