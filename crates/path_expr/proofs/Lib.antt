pub mod Marking
pub mod Ranks
pub mod Words
pub mod LiveArcs
pub mod Earlier
