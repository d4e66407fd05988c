pub mod Lists
pub mod Walks
pub mod Cuts
pub mod Openings
pub mod Fans
pub mod Replays
pub mod Starts
pub mod Descents
