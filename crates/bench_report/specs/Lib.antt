pub mod Bank
pub mod Report
