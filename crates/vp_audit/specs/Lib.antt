pub mod Audits
pub mod Explanation
pub mod Openings
pub mod Projections
pub mod Readings
pub mod GoesTo
pub mod UserParts
pub mod laws
