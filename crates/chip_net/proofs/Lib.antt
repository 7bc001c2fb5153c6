pub mod Delays
pub mod Kept
