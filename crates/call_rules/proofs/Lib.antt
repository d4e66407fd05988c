pub mod Here
pub mod Gathering
pub mod Paired
pub mod Joined
