pub mod Unit
pub mod Change
pub mod Shared
pub mod Clean
