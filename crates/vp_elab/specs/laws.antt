pub mod Positions
pub mod Children
