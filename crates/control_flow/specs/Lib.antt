pub mod Cycle
pub mod Loop
pub mod Control
pub mod Forward
pub mod Laws
