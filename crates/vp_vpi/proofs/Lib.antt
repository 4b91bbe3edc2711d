pub mod HandleTables
pub mod Iterations
pub mod Scopes
pub mod RaceLists
