pub mod Fields
pub mod Lines
pub mod Numbers
pub mod Quoted
pub mod QuotedMeaning
pub mod QuotedParts
