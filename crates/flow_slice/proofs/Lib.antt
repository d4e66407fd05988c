pub mod Nearest
pub mod Mirrored
pub mod SlicedLines
pub mod SliceRuns
pub mod Layers
pub mod FixedTests
pub mod Slices
