pub mod Inputs
pub mod Sent
pub mod Ended
pub mod Outcomes
pub mod Summed
