pub mod Members
pub mod PlaceBits
pub mod LineArcs
pub mod Spreading
pub mod Formed
pub mod Tracks
