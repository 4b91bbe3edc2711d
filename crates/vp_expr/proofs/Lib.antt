pub mod Starts
pub mod Growing
pub mod StatementReads
mod AwaitRows
mod DerivedRows
mod ModuleRows
mod ProcessRows
mod OriginRows
pub mod Connected
pub mod FirstIndexes
pub mod PortSteps
mod StartRows
pub mod Sized
pub mod AllRun
pub mod Wholes
pub mod Cutting
pub mod Derivations
pub mod Targets
pub mod Instances
pub mod Resolving
