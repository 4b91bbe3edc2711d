pub mod Cuts
pub mod BundleRows
pub mod Turns
pub mod Serving
pub mod Bundling
pub mod Openings
pub mod Auditing
