pub mod Tests
pub mod Puts
pub mod Renumbering
