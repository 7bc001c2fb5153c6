pub mod Control
pub mod Copying
pub mod Stores
