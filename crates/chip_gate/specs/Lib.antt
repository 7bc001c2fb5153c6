pub mod Base
pub mod Gated
pub mod Seated
