pub mod Actions
pub mod Errands
pub mod Gathers
pub mod Phases
pub mod Standing
pub mod Tallies
