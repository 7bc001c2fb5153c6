pub mod Instruction
pub mod Lines
pub mod Printed
