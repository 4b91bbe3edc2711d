pub mod Ordered
pub mod Telling
pub mod Rows
pub mod Retiring
pub mod Rising
