pub mod Marked
pub mod Stepped
pub mod Taking
pub mod Few
pub mod Rows
pub mod Served
