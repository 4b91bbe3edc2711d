pub mod Ids
pub mod Terms
