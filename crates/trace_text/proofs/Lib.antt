pub mod Cuts
pub mod Names
pub mod Numbers
pub mod Operands
pub mod Parcels
pub mod Printing
pub mod Rows
pub mod Told
