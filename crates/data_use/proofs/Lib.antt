pub mod ArcWalks
pub mod Patterns
pub mod Moves
pub mod Collected
pub mod Carrying
pub mod Fitting
pub mod Telling
