pub mod Status
pub mod Sliced
pub mod Inputs
pub mod Certified
pub mod Reported
pub mod Headline
