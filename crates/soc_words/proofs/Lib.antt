pub mod Links
pub mod Registers
pub mod Texts
