pub mod Results
pub mod Once
pub mod Stages
pub mod Steps
pub mod Found
pub mod Notes
