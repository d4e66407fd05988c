pub mod Input
pub mod Answer
pub mod Parts
pub mod Top
pub mod Made
