pub mod Word
pub mod ArcPath
pub mod Definitions
pub mod Marks
pub mod Report
pub mod Laws
pub mod Live
