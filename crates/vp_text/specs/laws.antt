pub mod Texts
pub mod Searches
