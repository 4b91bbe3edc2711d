pub mod Faults
pub mod Reading
pub mod Weight
pub mod Placing
pub mod Told
