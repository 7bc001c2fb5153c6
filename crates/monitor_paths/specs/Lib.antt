pub mod Always
pub mod FlashPath
pub mod Laws
pub mod OnLinks
pub mod Opened
pub mod WatchdogPath
pub mod Watched
