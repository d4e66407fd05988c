pub mod Constraints
pub mod Chains
pub mod Solving
pub mod Rounds
pub mod Answers
