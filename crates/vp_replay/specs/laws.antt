pub mod Sessions
pub mod Known
pub mod Names
pub mod Denials
pub mod Looks
pub mod Within
