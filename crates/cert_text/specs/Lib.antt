pub mod Line
pub mod LineReading
pub mod Text
pub mod Reading
pub mod Progress
pub mod Mark
