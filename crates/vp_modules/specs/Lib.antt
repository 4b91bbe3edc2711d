pub mod Faults
pub mod Items
pub mod Tables
pub mod Refusals
pub mod Purposes
pub mod ModuleRefusals
pub mod Definitions
pub mod Resolution
