pub mod Attached
pub mod Behave
pub mod Packets
pub mod Parts
