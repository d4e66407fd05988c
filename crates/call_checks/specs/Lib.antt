pub mod WellFormed
pub mod Laws
pub mod WorkedText
