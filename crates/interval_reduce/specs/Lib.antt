pub mod Interval
pub mod Level
pub mod Derivation
pub mod Laws
pub mod Choice
pub mod Growth
pub mod Arcs
