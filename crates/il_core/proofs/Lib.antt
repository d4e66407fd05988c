pub mod Integers
pub mod BoundsHold
pub mod StepKeeps
pub mod Quotients
pub mod Inputs
pub mod Wrapped
