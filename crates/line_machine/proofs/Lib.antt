pub mod Four
pub mod NarrowFits
pub mod LineFitting
pub mod Ways
pub mod Arcs
