pub mod Seen
pub mod Told
pub mod Loops
pub mod GrammarRows
pub mod LayoutRows
pub mod Read
