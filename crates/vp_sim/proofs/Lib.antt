pub mod Resting
pub mod Scheduling
pub mod StepRows
pub mod NetRows
pub mod Keeping
