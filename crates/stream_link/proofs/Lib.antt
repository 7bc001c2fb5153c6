pub mod Asks
pub mod Behaviours
pub mod Order
pub mod Pace
pub mod Works
