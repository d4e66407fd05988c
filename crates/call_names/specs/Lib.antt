pub mod Search
pub mod Outlines
pub mod Sorted
pub mod Numbers
pub mod Gathered
