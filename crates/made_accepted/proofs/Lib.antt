pub mod Cutting
pub mod Digits
pub mod Lines
pub mod Reading
pub mod Blocks
pub mod Rules
pub mod Accepted
