pub mod Walking
pub mod Noting
pub mod Effects
pub mod Derived
pub mod Reads
