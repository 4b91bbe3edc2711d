pub mod Again
pub mod Following
pub mod Raise
pub mod Takes
pub mod Within
pub mod Placed
