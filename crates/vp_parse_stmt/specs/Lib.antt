pub mod Reading
pub mod Placing
pub mod Weight
pub mod Meaning
pub mod laws
