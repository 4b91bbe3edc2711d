pub mod Earliest
pub mod Twice
pub mod Looked
pub mod Numbers
pub mod Graph
pub mod Hierarchy
pub mod RefusalRows
