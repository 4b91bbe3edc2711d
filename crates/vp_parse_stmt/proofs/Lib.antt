pub mod Loops
mod GrammarRows
pub mod Read
