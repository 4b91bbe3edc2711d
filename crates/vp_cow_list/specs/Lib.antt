pub mod Chunks
pub mod laws
pub mod Tracked
pub mod Exchanges
