pub mod Causes
pub mod Link
pub mod Registers
pub mod Text
pub mod Word
