pub mod Directions
pub mod Fields
pub mod Blocks
pub mod Images
