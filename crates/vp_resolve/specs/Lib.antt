pub mod Faults
pub mod Names
pub mod Operands
pub mod Constants
pub mod Checks
