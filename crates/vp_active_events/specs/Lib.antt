pub mod Events
pub mod Slots
pub mod Blocks
pub mod laws
