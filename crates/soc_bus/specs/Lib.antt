pub mod Access
pub mod Map
pub mod Memory
pub mod Parts
pub mod Rotation
pub mod Words
