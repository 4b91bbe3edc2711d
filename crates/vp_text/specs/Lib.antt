pub mod Texts
pub mod Lists
pub mod Refusals
pub mod laws
