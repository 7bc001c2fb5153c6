pub mod FirstMet
pub mod FirstStops
pub mod Going
pub mod Searches
pub mod Sessions
