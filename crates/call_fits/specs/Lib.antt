pub mod Longest
pub mod Apart
