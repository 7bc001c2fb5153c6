pub mod Fixed
pub mod Interrupts
pub mod Laws
