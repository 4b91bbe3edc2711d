pub mod Again
pub mod Binding
pub mod Raise
pub mod Takes
pub mod Within
pub mod Placed
pub mod Unique
