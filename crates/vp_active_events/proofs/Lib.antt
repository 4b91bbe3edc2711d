pub mod Counted
pub mod Blocks
pub mod Places
pub mod Indexed
pub mod Marking
pub mod Region
pub mod Sums
