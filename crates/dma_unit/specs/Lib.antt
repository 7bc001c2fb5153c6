pub mod Control
pub mod Copying
pub mod DmaRegisters
pub mod Stores
