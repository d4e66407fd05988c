pub mod Threatened
pub mod Listing
pub mod Answer
