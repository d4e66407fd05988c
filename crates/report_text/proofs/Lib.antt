pub mod Regions
pub mod TriedRegions
pub mod CertLines
