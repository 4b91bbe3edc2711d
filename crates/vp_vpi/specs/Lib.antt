pub use Rattle.vp_policy.specs.Denials
pub mod Faults
pub mod Observers
pub mod Lookups
pub mod Calls
pub mod SessionStates
pub mod Renumbered
pub mod HandleTables
