pub mod Values
pub mod Ids
pub mod Terms
pub mod Arena
pub mod Reads
pub mod Literals
pub mod LiteralSteps
pub mod laws
