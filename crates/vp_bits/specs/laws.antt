pub mod Words
pub mod Inverse
