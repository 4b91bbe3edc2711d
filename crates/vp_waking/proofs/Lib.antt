pub mod Rising
pub mod Lists
pub mod Hearing
pub mod Woken
