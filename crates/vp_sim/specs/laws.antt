pub mod Refusals
pub mod Designs
pub mod Changing
