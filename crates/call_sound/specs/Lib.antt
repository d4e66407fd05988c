pub mod Laws
pub mod WorkedText
