pub mod Quantity
pub mod Acceptance
