pub mod Nearer
pub mod Slice
pub mod Laws
pub mod Searched
pub mod Distance
pub mod Layer
pub mod Sides
