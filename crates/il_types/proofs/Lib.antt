pub mod Declaring
pub mod Passing
pub mod Counting
pub mod Saturated
pub mod OneAnswer
pub mod FirstNames
