pub mod AuditRows
pub mod Comparing
pub mod EntryReading
pub mod Following
pub mod Granting
pub mod LogReading
pub mod Marks
pub mod Promises
