pub mod ChipFile
pub mod ChipRead
pub mod ChipText
pub mod Faults
pub mod ScriptFile
pub mod ScriptLine
pub mod ScriptRead
pub mod ScriptText
