pub mod CommandFile
pub mod CommandLine
pub mod CommandRead
