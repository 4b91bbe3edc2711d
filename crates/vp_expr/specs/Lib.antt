pub mod Awaits
pub mod Origins
pub mod Tables
pub mod Start
pub mod Evaluation
pub mod Derived
pub mod Resolved
pub mod Changes
