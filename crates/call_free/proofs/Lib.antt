pub mod Lines
pub mod Alike
pub mod Moved
pub mod Itself
