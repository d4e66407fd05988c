pub mod Once
pub mod Refused
pub mod Small
