pub mod Heads
pub mod Input
pub mod Laws
