pub mod Laws
pub mod Settled
pub mod WorkedCertificates
pub mod Counting
pub mod Making
pub mod Adding
pub mod Measuring
