pub mod Block
pub mod BlockStack
pub mod BlockLabel
pub mod BlockFault
pub mod BlockLink
pub mod BlockTable
