pub mod Cells
pub mod Ranges
pub mod SpiCounts
pub mod Laws
pub mod Unasked
pub mod UnitFlash
