pub mod Symbols
pub mod Stopping
pub mod Reading
pub mod Placing
pub mod Meaning
pub mod laws
