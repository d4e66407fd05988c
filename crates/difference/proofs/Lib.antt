pub mod Lists
pub mod Chained
pub mod Settling
pub mod Boards
pub mod Lifts
pub mod Sweeps
pub mod Choices
