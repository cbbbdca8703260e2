pub mod Forms
pub mod Held
pub mod Begun
pub mod Example
