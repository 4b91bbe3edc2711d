pub use Rattle.vp_modules.specs.ModuleRefusals as modules
pub use Rattle.vp_pragma.specs.Rights
pub use Rattle.vp_pragma.specs.Envelopes
pub mod Tree
pub mod Elaboration
pub mod Sizes
pub mod Objects
pub mod Refusals
pub mod Built
pub mod Items
pub mod laws
