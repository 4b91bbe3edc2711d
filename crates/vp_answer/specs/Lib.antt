pub mod Refusals
pub mod Answers
pub mod Sizes
pub mod OpenSessions
pub mod Given
pub mod Renumbering
pub mod laws
