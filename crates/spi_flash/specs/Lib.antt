pub mod Flash
pub mod Ranges
pub mod SpiCycle
pub mod Unasked
pub mod UnitFlash
pub mod Valid
pub mod SpiCounts
pub mod Laws
