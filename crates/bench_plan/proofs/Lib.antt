pub mod Readings
pub mod Disclosed
pub mod Keeping
pub mod Ends
pub mod Leading
pub mod Making
