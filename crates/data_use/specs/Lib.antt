pub mod Events
pub mod Facts
pub mod Points
pub mod Routes
pub mod Sums
