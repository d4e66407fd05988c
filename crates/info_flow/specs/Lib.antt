pub mod Relevance
pub mod Agreement
pub mod Sources
pub mod Variable
pub mod Growth
pub mod Labels
pub mod Together
