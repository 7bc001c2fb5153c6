pub mod Events
pub mod Going
pub mod Rows
mod FlashRows
mod Traces
