pub mod Opening
pub mod Threat
pub mod Verdict
pub mod Safe
pub mod Behind
pub mod Laws
