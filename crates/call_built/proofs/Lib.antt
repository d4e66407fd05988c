pub mod Passing
pub mod Made
