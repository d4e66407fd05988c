pub mod Within
pub mod Held
pub mod Slots
pub mod Calls
pub mod Expanded
pub mod Stack
pub mod WorkedRun
pub mod Fits
