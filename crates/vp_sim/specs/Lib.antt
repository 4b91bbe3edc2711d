pub use Rattle.vp_expr.specs.Tables
pub use Rattle.vp_statement.specs.Effects
pub use Rattle.vp_statement.specs.Walking
pub use Rattle.vp_expr.specs.declared.change.Change
pub use Rattle.vp_waking.specs.declared.waiting.Waiting
pub mod Faults
pub mod States
pub mod laws
