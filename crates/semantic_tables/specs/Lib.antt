pub mod Row
pub mod Table
pub mod Hazards
pub mod Fit
pub mod Walk
pub mod OneRow
pub mod Laws
