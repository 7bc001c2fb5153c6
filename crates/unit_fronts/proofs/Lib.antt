pub mod Cause
pub mod ClosedFront
pub mod Control
pub mod Counts
pub mod LoadsAfterStore
pub mod ReceiveQueue
pub mod Rises
