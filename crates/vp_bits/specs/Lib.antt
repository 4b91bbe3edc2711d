pub mod Digits
pub mod Vector
pub mod Tables
pub mod Arithmetic
pub mod Comparing
pub mod Shaping
pub mod Codes
pub mod laws
