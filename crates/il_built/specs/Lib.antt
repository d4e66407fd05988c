pub mod Holding
pub mod Span
pub mod CheckedText
pub mod Plain
pub mod Laws
