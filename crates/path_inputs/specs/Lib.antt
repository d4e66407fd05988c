pub mod Core
pub mod Least
pub mod Laws
pub mod Bounding
