pub mod Laws
pub mod Standing
pub mod StreamCycle
pub mod StreamState
