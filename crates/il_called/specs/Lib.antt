pub mod Called
pub mod Expansion
pub mod CalledText
pub mod WorkedExpansion
