pub mod Written
pub mod Steps
pub mod Putting
pub mod PartTexts
