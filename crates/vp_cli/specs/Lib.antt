pub mod Misuses
pub mod Numbers
