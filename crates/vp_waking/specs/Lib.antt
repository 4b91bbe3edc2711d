pub mod Waking
pub mod Listening
