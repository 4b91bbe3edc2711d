pub mod Beginning
pub mod Rising
pub mod Noted
pub mod Places
pub mod Derivations
pub mod Bounds
pub mod Readings
pub mod Rows
mod DerivedRows
mod ReadRows
