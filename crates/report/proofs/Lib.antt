pub mod Fronts
pub mod Clean
