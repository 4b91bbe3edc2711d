pub mod Chunks
pub mod Tracked
pub mod Copies
pub mod Exchanges
