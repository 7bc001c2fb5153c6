pub mod Answering
pub mod Packets
