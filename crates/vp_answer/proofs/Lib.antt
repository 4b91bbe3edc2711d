pub mod Lists
pub mod Refusing
pub mod Turns
pub mod Sessions
