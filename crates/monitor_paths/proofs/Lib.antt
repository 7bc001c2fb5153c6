pub mod Cycles
pub mod Fronts
pub mod Links
pub mod Opened
pub mod Requests
pub mod Stays
pub mod Unit
pub mod Watched
