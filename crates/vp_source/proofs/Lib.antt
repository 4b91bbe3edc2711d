pub mod GrowingParts
pub mod Growing
pub mod Standing
mod StandingRows
pub mod SameKinds
