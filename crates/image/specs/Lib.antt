pub mod Block
pub mod Rules
pub mod Pairs
pub mod Refusals
pub mod Image
