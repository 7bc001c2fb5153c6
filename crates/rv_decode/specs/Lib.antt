pub mod ByFields
pub mod Encoded
pub mod Fields
pub mod Parcels
pub mod Rows
