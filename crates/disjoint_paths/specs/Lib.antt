pub mod Pair
pub mod FirstPath
pub mod Fan
pub mod Widening
pub mod Roles
pub mod Asked
pub mod Widened
pub mod Descent
