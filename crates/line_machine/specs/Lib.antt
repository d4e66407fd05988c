pub mod Fits
pub mod Cut
pub mod Laws
pub mod Arcs
pub mod Static
