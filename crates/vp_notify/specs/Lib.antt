pub use Rattle.vp_expr.specs.declared.change.Change
pub mod Faults
pub mod Registry
pub mod Renumbered
