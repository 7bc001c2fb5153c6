pub mod Masks
pub mod Names
pub mod ParcelParts
pub mod Table
pub mod Unique
pub mod UniqueParcel
pub mod Round
pub mod RoundParcels
