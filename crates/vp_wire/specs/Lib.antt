pub mod Faults
pub mod Lines
pub mod Dialogue
pub mod Failures
pub mod Reading
