pub mod Decided
pub mod LookUps
pub mod NoDefault
