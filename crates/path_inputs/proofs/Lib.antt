pub mod Members
pub mod Elements
mod Cores
pub mod Readings
pub mod Splits
pub mod Copies
mod Given
pub mod Solutions
mod Judged
pub mod Asked
