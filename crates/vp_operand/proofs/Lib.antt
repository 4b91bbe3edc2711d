pub mod Prefixes
pub mod Arenas
pub mod Digits
pub mod Setting
mod ArenaRows
mod LiteralRows
mod TermRows
mod ReadRows
