pub mod Keyword
pub mod Symbol
pub mod Spelling
pub mod Step
pub mod Cut
pub mod Limit
pub mod Reading
