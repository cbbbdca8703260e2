pub mod Status
pub mod Descriptor
pub mod Clean
