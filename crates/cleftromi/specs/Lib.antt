pub mod Fields
pub mod Interface
